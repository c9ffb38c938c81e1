pub mod Laws
pub mod Model
