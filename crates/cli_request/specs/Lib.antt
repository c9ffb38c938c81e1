pub mod Account
pub mod Several
pub mod Refusals
