pub mod Flags
pub mod Sets
pub mod Members
