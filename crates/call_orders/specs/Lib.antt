pub mod Heads
pub mod Stages
pub mod Arriving
pub mod Lettering
