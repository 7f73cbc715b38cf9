pub mod CodeLaws
pub mod HeldLaws
pub mod CodedLaws
pub mod ExprLaws
pub mod NameLaws
pub mod ClearLaws
pub mod EntryLaws
pub mod TextChangeLaws
