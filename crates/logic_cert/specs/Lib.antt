pub mod CertText
pub mod Refutes
pub mod inner
