pub mod Rows
pub mod Requests
pub mod Responses
pub mod Books
pub mod Writers
pub mod Faults
pub mod Breaks
