pub mod PutLaws
pub mod RunLaws
pub mod OneAnswer
