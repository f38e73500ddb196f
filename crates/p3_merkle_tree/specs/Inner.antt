-- Definitions that only proofs, and calls that no public contract mentions, use.
pub mod SaltedCommitmentLaws
pub mod SaltedParts
pub mod CommitmentLaws
pub mod IndexBinding
