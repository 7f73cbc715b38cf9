-- Laws of tests, of lists and of sums over them.
pub mod BoolLaws
pub mod ListLaws
pub mod Sums
