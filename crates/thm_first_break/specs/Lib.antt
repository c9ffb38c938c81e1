pub mod Rows
pub mod Order
pub mod Replies
pub mod Breaks
