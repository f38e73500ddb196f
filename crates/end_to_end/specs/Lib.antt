-- What the contracts of this crate cite beside the definitions of p3_merkle_tree.
pub mod Refusals
pub mod Honest
pub mod Comparisons
pub mod Paths
pub mod Inner
