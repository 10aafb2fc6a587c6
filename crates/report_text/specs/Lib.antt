pub mod TurnsText
pub mod LogText
pub mod SummaryText
pub mod Laws
pub mod FaultText
pub mod Faults
pub mod inner
