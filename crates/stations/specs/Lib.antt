pub mod Stations
pub mod Cases
pub mod JoinLaws
pub mod StationLaws
pub mod StationPromises
