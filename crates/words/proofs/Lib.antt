pub mod NumberLaws
pub mod SameLaws
pub mod StayLaws
pub mod TokenLaws
