pub mod WalkLaws
pub mod QuickLaws
pub mod LineLaws
pub mod ReadLaws
pub mod Vectors
