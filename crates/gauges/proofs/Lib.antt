-- All but `Computed` are for the crates over this one too.
mod Computed
pub mod Bounded
pub mod Flags
pub mod Laws
pub mod OneReply
pub mod Taking
