pub mod Parts
pub mod CrossLaws
pub mod DayLaws
pub mod WholeLaws
