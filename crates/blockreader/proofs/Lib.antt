pub mod FaultLaws
pub mod ReadLaws
pub mod OneAnswer
