pub mod Pairs
pub mod Counted
pub mod Gathered
pub mod Seen
pub mod Askable
pub mod Accepted
pub mod Answered
pub mod PlansFit
