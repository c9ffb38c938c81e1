pub mod Values
pub mod Letters
pub mod Grammar
