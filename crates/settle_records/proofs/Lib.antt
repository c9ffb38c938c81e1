pub mod Once
pub mod Passed
pub mod PaymentLaws
pub mod TestingLaws
