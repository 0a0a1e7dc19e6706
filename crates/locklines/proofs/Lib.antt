mod LockRunLaws
pub mod OneAnswer
