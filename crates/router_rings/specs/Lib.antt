pub mod Tied
pub mod OneByOne
