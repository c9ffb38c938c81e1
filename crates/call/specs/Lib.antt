pub mod queue_test
pub mod action
pub mod premises
pub mod step
pub mod entry
