pub mod Sound
pub mod SoundCounts
pub mod Coded
pub mod Verdict
