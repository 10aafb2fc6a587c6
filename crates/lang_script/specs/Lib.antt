pub mod Scripts
pub mod Faults
pub mod ScriptRules
pub mod inner
