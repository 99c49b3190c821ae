pub mod Ledger
pub mod Journal
pub mod Integrity
pub mod Reading
pub mod Since
pub mod NothingHeld
pub mod Incident
