pub mod Leaves
pub mod Rules
pub mod Accepted
pub mod Filling
pub mod Ranging
pub mod Theorems
