pub mod Pair
pub mod Joined
