pub mod Hardness
pub mod Invariants
pub mod inner
