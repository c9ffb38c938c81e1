pub mod OrderLaws
pub mod HeadLaws
pub mod RowTests
