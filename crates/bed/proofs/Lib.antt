pub mod ReadLaws
pub mod ColumnLaws
pub mod AcceptLaws
pub mod LineLaws
pub mod RowLaws
pub mod StoreLaws
pub mod StandardLaws
pub mod WriteLaws
