pub mod SpellLaws
pub mod WordLaws
pub mod BackLaws
pub mod RangeLaws
pub mod DecimalLaws
pub mod SpeltAsLaws
pub mod TidyLaws
