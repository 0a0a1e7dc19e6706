pub mod SetLaws
pub mod ClashLaws
pub mod PastLaws
pub mod RowLaws
pub mod PublishLaws
pub mod OneAnswer
