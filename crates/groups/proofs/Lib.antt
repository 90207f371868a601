-- The ways out of the list, and what its promise fixes.
pub mod ListWays
pub mod OneReply
