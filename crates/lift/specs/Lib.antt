pub mod Accepted
pub mod Conversion
pub mod Pairs
pub mod Positions
pub mod Texts
