pub mod AnswerLaws
pub mod ReadLaws
pub mod BlockLaws
pub mod QuickLaws
pub mod WalkLaws
pub mod StageLaws
pub mod TestLaws
pub mod WriteLaws
