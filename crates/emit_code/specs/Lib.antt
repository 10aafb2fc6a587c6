pub mod Code
pub mod Executions
pub mod Sleepers
pub mod Functions
pub mod Orders
pub mod LivePlans
pub mod Laws
