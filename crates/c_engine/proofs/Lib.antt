pub mod Banks
pub mod Desks
pub mod Laws
pub mod Seen
pub mod Refusals
pub mod Determined
pub mod Clearing
