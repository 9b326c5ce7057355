pub mod Held
pub mod InMemory
pub mod Made
pub mod Rows
