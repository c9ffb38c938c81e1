pub mod Determined
pub mod Laws
pub mod Refused
pub mod Rows
