pub mod OneAnswer
pub mod Exactly
pub mod Starred
pub mod Promises
pub mod Worthless
pub mod WorthlessCalls
pub mod Enums
