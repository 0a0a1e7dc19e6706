pub mod ListedLaws
pub mod KeptLaws
pub mod LeadLaws
pub mod OutsideLaws
pub mod PickLaws
pub mod SheetedLaws
pub mod OneList
