-- All of these are for the crates over this one too.
pub mod Placing
pub mod Decimals
pub mod GaugeTexts
pub mod Telling
pub mod LineSizes
pub mod RowTexts
pub mod OneReply
pub mod Worked
