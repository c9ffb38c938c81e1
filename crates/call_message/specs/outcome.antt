pub mod Acting
pub mod Doing
