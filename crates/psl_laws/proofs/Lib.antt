pub mod CheckedLaws
pub mod RuleLaws
pub mod LineLaws
pub mod ValidLaws
pub mod BackWordLaws
pub mod BackLaws
pub mod Vectors
