-- Definitions that only proofs, and calls that no public contract mentions, use.
pub mod QueryVerdicts
