-- Definitions that only proofs, and calls that no public contract mentions, use.
pub mod Agreement
pub mod Children
pub mod Exponents
pub mod Schedules
pub mod Levels
pub mod Shapes
pub mod Covered
