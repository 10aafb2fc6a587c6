pub mod AtSight
pub mod Asked
pub mod CountAsked
pub mod Uncounted
pub mod Found
pub mod FoundLawful
pub mod FoundByCounting
pub mod FoundByRows
