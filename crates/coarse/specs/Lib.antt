pub mod Coarse
pub mod CoarseHeld
pub mod Cases
pub mod CoarseLaws
pub mod CoarsePromises
