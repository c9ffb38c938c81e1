pub mod PlaceLaws
pub mod Asked
pub mod LineLaws
pub mod MessageLaws
pub mod Meets
pub mod WordLaws
pub mod LiveRows
