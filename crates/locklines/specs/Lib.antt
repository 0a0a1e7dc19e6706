pub mod LockLines
pub mod LockWrites
pub mod LockLineLaws
