pub mod Judged
pub mod Targets
