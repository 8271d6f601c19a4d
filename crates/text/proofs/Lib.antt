pub mod Laws
pub mod TextLaws
pub mod PieceLaws
pub mod StageLaws
pub mod CheckLaws
pub mod ShowLaws
pub mod PlainLaws
