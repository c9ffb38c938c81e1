pub mod MarkLaws
pub mod MoneyLaws
