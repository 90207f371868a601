-- All of these are for the crates over this one too.
pub mod NumberLaws
pub mod FileLaws
pub mod ReadLaws
pub mod KindLaws
pub mod ReadTold
pub mod Reasons
pub mod ReadPlaces
pub mod WriteLaws
pub mod WholeFile
pub mod RoundTrip
pub mod Largest
pub mod OneReply
