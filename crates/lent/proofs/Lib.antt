pub mod Answering
pub mod Changing
