pub mod Asked
pub mod Changed
pub mod Kept
