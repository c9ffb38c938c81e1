pub mod EntryRules
pub mod Chains
