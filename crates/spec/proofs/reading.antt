-- What is known of the bytes and the nodes of a sheet once its lines were read.
pub mod Lines
pub mod Places
pub mod Reading
pub mod Flags
pub mod Floats
pub mod Refusals
