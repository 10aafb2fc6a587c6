pub mod BranchLemmas
pub mod CertForms
pub mod DecidingLemmas
pub mod RowLemmas
pub mod SoundnessLemmas
pub mod TextLemmas
