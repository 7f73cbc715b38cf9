pub mod Chain
pub mod Definitions
pub mod Search
pub mod Withs
