pub mod Decide
pub mod Lists
pub mod Walk
pub mod Reach
pub mod Listing
pub mod ListingLaws
