pub mod Kinds
pub mod Words
pub mod Ranges
pub mod SpeltAs
