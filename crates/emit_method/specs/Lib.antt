pub mod Called
pub mod Docs
pub mod Lasting
pub mod Methods
pub mod Laws
pub mod inner
