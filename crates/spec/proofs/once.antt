-- Lowering uses what it allocates once, so a walk enters each name and reaches each expression at most once.
pub mod Weights
pub mod Once
pub mod Nesting
mod NameWeights
pub mod Lowering
pub mod Finishing
pub mod Merging
pub mod Linear
pub mod Leaves
