pub mod Rows
pub mod Headings
