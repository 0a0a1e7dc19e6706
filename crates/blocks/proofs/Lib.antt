pub mod SoundLaws
pub mod RunLaws
pub mod DamageLaws
pub mod Promises
