pub mod terms
pub mod payments
pub mod whole
