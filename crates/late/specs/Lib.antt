pub mod Late
pub mod LateHeld
pub mod Cases
