pub mod Laws
pub mod Standing
pub mod Alike
pub mod Pairs
