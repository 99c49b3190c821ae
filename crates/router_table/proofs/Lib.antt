pub mod HeadingLaws
pub mod RowLaws
