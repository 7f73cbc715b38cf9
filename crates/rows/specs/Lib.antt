pub mod Decoded
pub mod Readers
