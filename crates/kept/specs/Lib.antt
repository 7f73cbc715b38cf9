pub mod Walks
pub mod Answers
pub mod References
pub mod TextChanges
pub mod Zeroes
