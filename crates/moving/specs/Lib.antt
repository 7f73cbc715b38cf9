pub mod Moving
pub mod Places
