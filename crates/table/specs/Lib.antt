pub mod Areas
pub mod Found
pub mod Faults
pub mod Rows
pub mod Tables
