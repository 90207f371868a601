pub mod Families
pub mod Groups
pub mod Lists
pub mod Buffers
pub mod Paper
