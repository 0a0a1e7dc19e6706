pub mod Blocks
pub mod Cases
pub mod Answers
pub mod WordLaws
pub mod SoundLaws
pub mod RunLaws
pub mod DamageLaws
pub mod Promises
