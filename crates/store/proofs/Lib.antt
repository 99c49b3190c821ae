pub mod OrLaws
pub mod ReadLaws
pub mod PlaceLaws
pub mod RingLaws
pub mod WalkLaws
pub mod PacketLaws
pub mod StoreWordLaws
