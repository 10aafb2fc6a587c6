pub mod Scope
pub mod Forms
pub mod Sense
pub mod Plain
pub mod KeptMeaning
pub mod Making
pub mod inner
