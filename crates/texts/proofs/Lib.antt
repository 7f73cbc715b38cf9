pub mod HeldLaws
pub mod ReadLaws
pub mod AddLaws
