pub mod Tickets
pub mod Hands
pub mod inner
