pub mod FoundLaws
pub mod SearchLaws
pub mod ReadLaws
pub mod OneAnswer
