pub mod Ring
pub mod Packets
pub mod Changes
pub mod StoreWords
