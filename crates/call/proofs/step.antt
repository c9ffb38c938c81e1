pub mod EdgeLaws
pub mod StepLaws
