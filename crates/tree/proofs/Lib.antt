pub mod SlotLaws
pub mod PlaceLaws
pub mod NodeLaws
pub mod WalkLaws
pub mod JudgeLaws
