pub mod Moments
pub mod CallLaws
