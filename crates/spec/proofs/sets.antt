-- What stays true of the sets that are being merged, and what it takes to finish one.
pub mod Above
pub mod Standing
pub mod Loads
