-- All of these are for the crates over this one too.
pub mod OneReply
pub mod Reasons
