pub mod Walking
pub mod Picking
pub mod Entering
pub mod Whole
