pub mod ClosedLaws
pub mod LateLaws
pub mod LateExact
pub mod LateKept
pub mod LatePromises
