pub mod entries
pub mod rules
pub mod plan
