pub mod Checks
pub mod Kept
pub mod Last
pub mod Lookups
pub mod Parents
pub mod Steps
pub mod Told
pub mod Walks
