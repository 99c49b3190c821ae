pub mod Tokens
pub mod Calls
pub mod Cases
pub mod Grant
pub mod GoodEnds
pub mod NothingLost
