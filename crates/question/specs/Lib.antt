pub mod Refusals
pub mod Verdicts
pub mod Answers
pub mod Walks
