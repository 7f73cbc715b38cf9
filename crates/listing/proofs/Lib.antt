pub mod AnsweredLaws
pub mod LinkLaws
pub mod ListingLaws
pub mod Afresh
