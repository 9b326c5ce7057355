pub mod Gaps
pub mod Layouts
