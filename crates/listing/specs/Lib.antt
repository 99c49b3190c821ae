pub mod Ascii
pub mod Decimal
pub mod Input
pub mod Text
pub mod Listing
pub mod Writing
pub mod Claims
