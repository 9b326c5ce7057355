pub mod Names
pub mod Units
