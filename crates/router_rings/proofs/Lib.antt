pub mod PartLaws
pub mod RingProof
pub mod RunProof
pub mod KeptLaws
pub mod TiedProof
