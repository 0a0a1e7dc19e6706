pub mod RestLaws
pub mod SheetLaws
pub mod Promises
pub mod CaseLaws
