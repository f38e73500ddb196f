-- The lemmas of this crate.
pub mod Walks
pub mod Accepted
pub mod Bits
pub mod Splits
pub mod Layers
pub mod Climbs
pub mod Honest
pub mod Entries
pub mod Roots
pub mod Powers
pub mod TwoWalks
pub mod Consistencies
pub mod Halves
pub mod Sides
pub mod Lifts
pub mod Composed
