pub mod Adding
pub mod Removing
