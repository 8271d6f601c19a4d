pub mod RowLaws
pub mod TurnLaws
pub mod FillLaws
pub mod Vectors
