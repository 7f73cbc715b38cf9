pub mod Reads
pub mod Fits
pub mod Adds
