pub mod Table
pub mod Answered
pub mod Best
pub mod Counting
pub mod ExactCounts
pub mod Mixing
pub mod RelayedRest
