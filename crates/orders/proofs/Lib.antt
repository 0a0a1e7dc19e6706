pub mod InOne
pub mod OneAnswer
