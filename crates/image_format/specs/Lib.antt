pub mod Encoded
pub mod Images
pub mod Parsed
pub mod Refusal
pub mod Tags
pub mod Walk
