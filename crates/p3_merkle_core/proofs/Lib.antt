pub mod Shapes
pub mod Lists
pub mod Checks
pub mod Covered
pub mod Pruned
pub mod Collisions
