pub mod Sizes
pub mod Reads
pub mod Parts
pub mod Whole
