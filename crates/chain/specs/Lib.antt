pub mod Columns
pub mod Table
pub mod Records
pub mod Read
pub mod Tests
pub mod Write
pub mod Rules
pub mod Steps
