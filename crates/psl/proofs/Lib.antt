pub mod AnswerLaws
pub mod ReadLaws
pub mod ColumnLaws
pub mod StoreLaws
pub mod CheckLaws
pub mod WriteLaws
