pub mod Batch
pub mod Leaves
pub mod Cases
pub mod Laws
pub mod Host
