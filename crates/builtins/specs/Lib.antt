pub mod Table
pub mod Lookup
