pub mod Adding
pub mod Filling
pub mod Laws
pub mod Places
pub mod Waiting
pub mod Days
