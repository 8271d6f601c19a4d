pub mod Limits
pub mod Reasons
pub mod Refusals
pub mod Strands
pub mod Parts
