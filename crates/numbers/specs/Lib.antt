pub mod Spelling
pub mod Numbers
pub mod Ranges
pub mod Lists
