pub mod Claims
pub mod inner
pub mod TrueAtStart
pub mod FalseStarts
