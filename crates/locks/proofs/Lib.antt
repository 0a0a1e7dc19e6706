pub mod LockLaws
pub mod LockReplies
pub mod LockExact
pub mod LockPromises
