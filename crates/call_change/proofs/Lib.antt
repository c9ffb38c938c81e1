pub mod SublimitLaws
pub mod DebitLaws
pub mod StatusLaws
