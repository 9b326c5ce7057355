pub mod Listings
pub mod Looks
pub mod Outcomes
pub mod Places
