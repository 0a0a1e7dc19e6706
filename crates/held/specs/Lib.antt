pub mod Held
pub mod Cases
