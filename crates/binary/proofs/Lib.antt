pub mod ByteLaws
pub mod BackLaws
pub mod WordLaws
