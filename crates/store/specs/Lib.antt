pub mod Codes
pub mod Work
pub mod TextChanges
