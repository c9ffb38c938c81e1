pub mod EntryLaws
pub mod ChainLaws
