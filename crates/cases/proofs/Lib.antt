mod CaseLaws
pub mod LineLaws
pub mod PartLaws
