pub mod Columns
pub mod Spells
pub mod Places
pub mod Lines
pub mod OneLine
pub mod Names
