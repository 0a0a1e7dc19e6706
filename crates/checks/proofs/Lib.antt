pub mod CheckLaws
pub mod OneAnswer
