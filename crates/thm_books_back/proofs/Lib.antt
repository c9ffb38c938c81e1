pub mod Fits
pub mod Blocks
pub mod Entries
pub mod Written
pub mod Whole
pub mod Again
pub mod Kept
pub mod Theorems
