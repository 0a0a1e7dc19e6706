pub mod Lines
pub mod Writes
pub mod Runs
pub mod LineLaws
