pub mod ActLaws
pub mod WorkLaws
