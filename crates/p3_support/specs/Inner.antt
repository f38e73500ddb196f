-- Definitions that only proofs, and calls that no public contract mentions, use.
pub mod RowLengths
pub mod PairLengths
pub mod Stored
pub mod Drawn
