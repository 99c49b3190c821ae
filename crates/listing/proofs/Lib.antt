pub mod WritingLaws
pub mod LineLaws
pub mod InputLaws
pub mod RoomLaws
pub mod ListingLaws
pub mod DecimalLaws
