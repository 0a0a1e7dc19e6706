pub mod PairsOnly
pub mod WrongBuilds
pub mod WrongVerdicts
