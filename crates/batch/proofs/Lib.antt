mod RunLaws
pub mod OneAnswer
pub mod Laws
pub mod Host
pub mod Promises
