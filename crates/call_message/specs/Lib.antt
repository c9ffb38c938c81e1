pub mod outcome
pub mod receive
