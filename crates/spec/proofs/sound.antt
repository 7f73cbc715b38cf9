-- What is kept of a module is sound: every number in range, in order, and what it is said to be.
pub mod Ordered
pub mod Walk
pub mod Numbers
pub mod Keeping
pub mod Ranged
pub mod ScopeRange
pub mod Sound
pub mod Inherited
pub mod Operators
pub mod Lowered
