pub mod BarLaws
pub mod LockRequests
pub mod OneAnswer
