pub mod HeldMoves
pub mod HeldLaws
pub mod Seen
pub mod HeldExact
pub mod HeldBlank
