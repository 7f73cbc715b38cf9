pub mod Runs
pub mod Words
pub mod Equality
pub mod Order
mod Examples
