pub mod Numbers
pub mod Records
pub mod Files
pub mod Reading
pub mod Reasons
pub mod Replies
pub mod Steps
