pub mod Whole
pub mod Inputs
pub mod Leaves
pub mod Kept
pub mod Ordered
pub mod Paths
pub mod Parts
