-- All of these are for the crates over this one too.
pub mod Rests
pub mod Reaches
pub mod Fitting
pub mod Reasons
pub mod FirstPair
pub mod Judging
pub mod OneReply
pub mod Reference
pub mod Answering
