pub mod ExactLaws
pub mod RuleLaws
pub mod ValidLaws
pub mod WritableLaws
pub mod BackWordLaws
pub mod BackLaws
pub mod Vectors
