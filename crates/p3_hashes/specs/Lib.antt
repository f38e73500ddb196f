pub mod Fold
pub mod Sha
pub mod Laws
pub mod Inner
