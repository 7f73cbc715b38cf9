pub mod ConditionLaws
pub mod RowChanges
pub mod ChangeLaws
