pub mod GroupLaws
pub mod CoarseLaws
pub mod CoarsePromises
