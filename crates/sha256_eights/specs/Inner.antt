-- Definitions that only proofs, and calls that no public contract mentions, use.
pub mod Lanes
pub mod Written
pub mod Inputs
