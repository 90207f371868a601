pub mod Flat
pub mod Copies
