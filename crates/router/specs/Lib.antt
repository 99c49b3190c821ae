pub mod Records
pub mod Refusals
pub mod Calls
pub mod Held
pub mod Cases
pub mod Reached
pub mod RouterCalls
pub mod HeldCalls
