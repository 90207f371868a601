pub mod Ways
pub mod OneReply
pub mod Sizes
pub mod Whole
