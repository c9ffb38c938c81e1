pub mod Lines
pub mod Whole
pub mod Theorems
pub mod Examples
