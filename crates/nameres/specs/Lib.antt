pub mod Resolution
pub mod Loaded
