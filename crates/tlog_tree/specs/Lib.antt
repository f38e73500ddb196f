pub mod Trees
pub mod Examples
pub mod Frontiers
pub mod Wanted
pub mod Builders
pub mod Parts
pub mod Inner
