pub mod TableLaws
pub mod LookupLaws
