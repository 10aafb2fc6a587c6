pub mod Scopes
pub mod Expressions
pub mod Values
pub mod inner
