pub mod NumberLaws
pub mod DigitLaws
pub mod ItemLaws
pub mod ListLaws
