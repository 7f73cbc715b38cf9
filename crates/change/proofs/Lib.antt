pub mod JudgeLaws
pub mod SetLaws
pub mod MovesLaws
pub mod CallLaws
