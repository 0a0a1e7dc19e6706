pub mod SearchLaws
pub mod CircleLaws
pub mod PortLaws
pub mod LowestLaws
pub mod Exits
pub mod RequestLaws
pub mod LateRequests
pub mod OneAnswer
