pub mod Items
pub mod Doubled
pub mod OverCalls
pub mod BrokenRules
pub mod Counts
pub mod Accepted
