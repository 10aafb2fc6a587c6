pub mod CheckedPlans
pub mod PrintedReports
pub mod inner
