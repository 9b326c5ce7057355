pub mod Changed
pub mod Changes
pub mod Files
pub mod Scans
