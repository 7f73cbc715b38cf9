pub mod Room
pub mod Lowers
pub mod Merges
pub mod Finishes
