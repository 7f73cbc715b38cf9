pub mod SoundNames
pub mod HeldLaws
pub mod AnswerLoops
pub mod UseLaws
pub mod StepLaws
pub mod ResolveLaws
pub mod LoadLaws
pub mod ConditionLaws
