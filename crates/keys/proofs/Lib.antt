pub mod ItemLaws
pub mod ParenLaws
pub mod AnswerLaws
pub mod KeyLaws
pub mod NumberLaws
pub mod LiteralLaws
