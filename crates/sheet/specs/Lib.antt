pub mod Sheet
pub mod Cases
pub mod RestLaws
pub mod SheetLaws
pub mod Promises
