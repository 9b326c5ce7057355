pub mod Columns
pub mod RowFiles
pub mod Written
pub mod Moves
pub mod Searches
pub mod Pairs
