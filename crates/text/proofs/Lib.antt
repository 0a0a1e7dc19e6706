mod PutLaws
pub mod OneAnswer
