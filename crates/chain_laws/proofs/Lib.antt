pub mod RuleLaws
pub mod LineLaws
pub mod TextLaws
pub mod ValidLaws
pub mod BackLaws
pub mod Vectors
