pub mod Slots
pub mod Places
pub mod Nodes
pub mod Walk
pub mod Judge
