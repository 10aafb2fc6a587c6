pub mod Typed
pub mod KeptMeaning
pub mod PlainRuns
pub mod inner
