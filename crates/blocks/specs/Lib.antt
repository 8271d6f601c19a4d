pub mod Blocks
pub mod Rules
pub mod Rows
pub mod Strands
pub mod Readers
