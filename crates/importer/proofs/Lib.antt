pub mod StandLaws
pub mod LogLaws
pub mod AnswerLaws
pub mod OneAnswer
