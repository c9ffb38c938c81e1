pub mod ShutOut
pub mod Errors
pub mod BrokenParts
