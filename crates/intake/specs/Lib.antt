pub mod NodeReads
pub mod Bring
