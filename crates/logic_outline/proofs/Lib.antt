pub mod Readings
pub mod NumberLemmas
pub mod NodeParts
pub mod FormLemmas
pub mod OutlineForms
pub mod ByNodes
pub mod BranchLemmas
pub mod ListLemmas
