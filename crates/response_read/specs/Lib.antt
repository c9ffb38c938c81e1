pub mod Reply
pub mod Sound
