pub mod StationLaws
pub mod StationPromises
