-- Definitions that only proofs, and calls that no public contract mentions, use.
pub mod Checks
pub mod Collisions
pub mod Parts
pub mod Paths
pub mod NodeDigests
pub mod OpenedMatrices
pub mod OpenedRows
pub mod RestoredLevels
pub mod QueryPairs
