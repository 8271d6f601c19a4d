pub mod LiftLaws
pub mod TableLaws
