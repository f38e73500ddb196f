-- Definitions that only proofs, and calls that no public contract mentions, use.
pub mod Paths
pub mod Meanings
pub mod Siblings
pub mod Ascents
