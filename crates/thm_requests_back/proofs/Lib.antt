pub mod Lines
pub mod Written
pub mod Back
pub mod ReadsBack
pub mod Texts
pub mod Again
