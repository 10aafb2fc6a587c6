mod ListSteps
mod PoolNumbers
pub mod SomeOf
mod StartChoices
mod StartRanges
mod StartTests
mod StartTruths
