pub mod Choosing
pub mod Closing
pub mod OneLog
pub mod OneSection
pub mod Rounding
pub mod Turning
pub mod OneStep
pub mod Waking
