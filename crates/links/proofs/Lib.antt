-- For the functions of this crate alone: ChainLaws, LineLaws, ApartLaws. The others are for the crates over this one too.
pub mod Pairs
pub mod PairTest
pub mod Reasons
pub mod Numbered
pub mod FaultLaws
pub mod ChainLaws
pub mod OneReply
pub mod Orders
pub mod SpanLaws
pub mod JoinedLaws
pub mod LineLaws
pub mod ApartLaws
