pub mod ParseLaws
pub mod TextLaws
pub mod Promises
