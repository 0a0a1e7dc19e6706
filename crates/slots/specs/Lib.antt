pub mod Lent
pub mod Finds
pub mod Requests
