mod Valuations
mod Bodies
mod Wide
pub mod Things
mod Solved
mod Ties
pub mod Blocks
mod Shown
