-- Definitions that only proofs, and calls that no public contract mentions, use.
pub mod Own
pub mod Levels
pub mod Slots
