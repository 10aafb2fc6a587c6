pub mod Paths
pub mod NegatedQueries
pub mod Limits
pub mod PlainClaims
pub mod Expressible
pub mod inner
