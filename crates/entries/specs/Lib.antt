pub mod Records
pub mod Entries
