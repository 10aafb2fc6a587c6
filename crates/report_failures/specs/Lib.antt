pub mod FindingFailures
pub mod FailureText
pub mod inner
