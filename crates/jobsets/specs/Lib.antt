pub mod Gains
pub mod GainLaws
