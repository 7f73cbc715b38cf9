pub mod Loads
pub mod Filled
