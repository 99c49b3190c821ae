pub mod RefusalLaws
pub mod HeldLaws
pub mod HeldProof
pub mod CaseProofs
pub mod ReachedProof
pub mod InPlaceLaws
pub mod StayLaws
