pub mod Logs
pub mod Verdicts
pub mod Cases
