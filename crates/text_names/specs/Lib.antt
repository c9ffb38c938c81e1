pub mod rules
pub mod quick
