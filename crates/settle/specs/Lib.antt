pub mod Cover
pub mod Payments
pub mod Settlement
pub mod Rules
pub mod Types
