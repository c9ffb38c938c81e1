pub mod Chosen
pub mod EndLaws
pub mod CompleteLaws
pub mod TakeLaws
pub mod AnswerLaws
pub mod BeginLaws
