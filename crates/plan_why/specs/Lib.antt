pub mod Things
pub mod WideNumbers
pub mod Failures
pub mod Reasons
pub mod inner
