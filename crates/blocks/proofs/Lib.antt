pub mod BlockLaws
pub mod GapLaws
pub mod RuleLaws
pub mod TakeLaws
pub mod TableLaws
pub mod UseLaws
pub mod StrandLaws
pub mod StoreLaws
