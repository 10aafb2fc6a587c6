pub mod Answers
pub mod Fits
pub mod Laws
pub mod Outside
pub mod States
pub mod Within
pub mod inner
