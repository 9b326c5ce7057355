pub mod Held
pub mod HeldSound
pub mod Samples
