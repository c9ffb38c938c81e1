pub mod Failing
pub mod Theorems
