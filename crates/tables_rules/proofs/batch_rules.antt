pub mod Ranks
pub mod RowWords
pub mod RowRules
pub mod Exact
