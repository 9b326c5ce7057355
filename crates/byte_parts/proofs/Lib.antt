pub mod Cutting
pub mod LittleEndian
