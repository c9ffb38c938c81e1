pub mod Laws
pub mod Stops
