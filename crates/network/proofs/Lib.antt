pub mod NetLaws
pub mod NetRequests
pub mod OneAnswer
