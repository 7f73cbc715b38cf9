-- What a changed text can move, and that what is kept stays what is worked out afresh, up to demand 3.
pub mod Chain
pub mod MovedLaws
pub mod Locality
pub mod Incremental
pub mod Demand3
