pub mod ReplayLaws
pub mod OneAnswer
