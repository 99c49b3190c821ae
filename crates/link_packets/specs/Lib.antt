pub mod Stretches
pub mod Packets
pub mod GoodPackets
pub mod Examples
