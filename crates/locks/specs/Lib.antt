pub mod Locks
pub mod LocksHeld
pub mod Cases
pub mod LockLaws
pub mod LockReplies
pub mod LockPromises
