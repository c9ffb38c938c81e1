pub mod Engines
pub mod Errors
pub mod Breaking
