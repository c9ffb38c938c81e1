pub mod Block
pub mod Book
pub mod Accounts
pub mod Range
