pub mod Demands
pub mod Words
