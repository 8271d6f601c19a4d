pub mod PutLaws
pub mod DigitLaws
pub mod ListLaws
pub mod StoreLaws
