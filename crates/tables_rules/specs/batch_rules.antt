pub mod BatchRules
