pub mod batch_rules
pub mod payments
pub mod entry_rules
pub mod whole
