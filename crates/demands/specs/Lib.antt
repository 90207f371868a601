pub mod Exactly
pub mod Room
pub mod Builds
pub mod Cases
