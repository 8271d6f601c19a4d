pub mod Regions
pub mod Reaches
pub mod Searches
pub mod Tallies
pub mod Batches
pub mod Steps
