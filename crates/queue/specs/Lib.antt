pub mod Memory
pub mod Tests
pub mod Rows
pub mod Promise
pub mod History
