pub mod Values
pub mod Text
pub mod Response
