pub mod Sums
pub mod ByteLaws
