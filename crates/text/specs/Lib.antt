pub mod Decimal
pub mod DecimalLaws
pub mod Lays
pub mod LaysLaws
pub mod Puts
