pub mod Needs
pub mod CountedReasons
pub mod inner
