pub mod ArchiveLaws
pub mod OneAnswer
