pub mod SignLaws
pub mod PartLaws
