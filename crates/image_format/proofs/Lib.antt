pub mod Entries
pub mod Exact
pub mod Fields
pub mod Front
pub mod Inverted
pub mod Opening
pub mod Steps
pub mod Walked
