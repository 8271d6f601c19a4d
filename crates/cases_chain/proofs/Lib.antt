pub mod FillLaws
pub mod TableLaws
pub mod LiftLaws
