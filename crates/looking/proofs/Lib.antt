pub mod Listings
pub mod Looks
pub mod Pairs
