-- Definitions that only proofs and internal calls use.
pub mod Wanted
pub mod Splitting
pub mod Failures
