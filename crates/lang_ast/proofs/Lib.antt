pub mod TurnLaws
pub mod Calls
