pub mod Infos
pub mod InfosBack
pub mod Lengths
pub mod Shown
