pub mod PutLaws
pub mod AddLaws
pub mod TextLaws
pub mod AnswerLaws
pub mod OneAnswer
