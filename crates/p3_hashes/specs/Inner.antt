-- Definitions that only proofs, and calls that no public contract mentions, use.
pub mod Eights
pub mod Transposed
