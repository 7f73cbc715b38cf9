pub mod Ranks
mod Examples
pub mod Entries
pub mod Run
