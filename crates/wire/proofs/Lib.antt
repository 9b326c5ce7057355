pub mod Mapped
pub mod Placed
pub mod Places
pub mod Puts
pub mod ReadBack
pub mod Shown
pub mod Units
