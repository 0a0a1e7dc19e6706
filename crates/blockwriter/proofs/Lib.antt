pub mod WriteLaws
pub mod OneAnswer
