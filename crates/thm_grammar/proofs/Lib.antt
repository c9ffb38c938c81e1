pub mod Meanings
pub mod Payments
pub mod Request
pub mod Response
pub mod Values
