pub mod Storing
pub mod Sealing
pub mod Writes
