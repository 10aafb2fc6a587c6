pub mod Growth
pub mod Passes
pub mod Standings
pub mod Closing
pub mod Loans
pub mod inner
