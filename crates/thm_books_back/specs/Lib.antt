pub mod Fitting
pub mod Reopened
