-- Definitions that only proofs, and calls that no public contract mentions, use.
pub mod Blocks
pub mod Stored
pub mod Alike
