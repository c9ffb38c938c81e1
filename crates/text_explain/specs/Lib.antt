pub mod Tags
pub mod Stages
pub mod Walk
pub mod Faults
