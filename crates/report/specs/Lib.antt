pub mod Listings
pub mod Replies
