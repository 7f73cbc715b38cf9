pub mod WordLaws
pub mod MeantLaws
