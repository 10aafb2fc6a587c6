pub mod Answered
pub mod Placing
pub mod ApartCandidates
pub mod OnePlan
pub mod NotesOn
pub mod Numbered
pub mod RelayedPlans
pub mod RelayedWakes
