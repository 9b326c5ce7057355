pub mod Spare
pub mod Numbered
pub mod Keeping
pub mod Adding
pub mod Removing
