pub mod Marks
pub mod Words
pub mod MarkLaws
pub mod MaskLaws
pub mod WordLaws
