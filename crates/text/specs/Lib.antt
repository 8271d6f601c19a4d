pub mod Scan
pub mod Pieces
pub mod Words
pub mod Parts
pub mod Checks
pub mod Steps
