pub mod Letters
pub mod inner
