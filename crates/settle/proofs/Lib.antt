pub mod Laws
pub mod Money
pub mod Examples
