pub mod InLine
pub mod Values
pub mod Mirror
pub mod Requests
pub mod Responses
pub mod Examples
