pub mod Choices
mod Lookups
mod Arguments
mod Runs
mod Heard
mod Blocks
mod Tests
