pub mod TextLaws
pub mod LineLaws
pub mod PackWays
pub mod OneReply
pub mod Worked
