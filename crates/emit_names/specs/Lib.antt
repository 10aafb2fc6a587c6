pub mod Letters
pub mod Words
pub mod Names
pub mod Lints
pub mod Laws
pub mod inner
