pub mod LogLaws
pub mod VerdictLaws
pub mod SizeLaws
pub mod Promises
