pub mod Meaning
pub mod Feeding
pub mod RoundTrip
pub mod GoodStates
pub mod Cases
pub mod Ticks
