-- What is known of the nodes of a sheet once the walk accepted them: subtrees, their sizes, kid places, keys.
pub mod Subtrees
pub mod Keyed
pub mod TreeRoom
pub mod Sizes
