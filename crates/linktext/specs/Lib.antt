pub mod Texts
pub mod Faults
pub mod Replies
pub mod Steps
