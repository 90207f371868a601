-- The laws of the lister, from the rows in order up to the list, and what the promise of the list fixes.
pub mod Puts
pub mod Blocks
pub mod Stores
pub mod Adds
pub mod OneGauge
pub mod Worths
pub mod Steps
pub mod LineLaws
pub mod GraphLaws
pub mod WalkLaws
pub mod SweepLaws
pub mod SpanLaws
pub mod HourLaws
pub mod BeginLaws
pub mod Places
pub mod ListWays
pub mod OneReply
