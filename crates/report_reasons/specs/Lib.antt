pub mod ReasonText
pub mod BroadcastText
