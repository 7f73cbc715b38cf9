pub mod RunLaws
pub mod WordLaws
pub mod EqualityLaws
pub mod OrderLaws
pub mod FormLaws
mod CopyLoops
pub mod Tests
