pub mod Formats
pub mod Legal
pub mod Names
pub mod Numbered
pub mod Protections
