pub mod Layers
pub mod Leaves
pub mod Wanted
