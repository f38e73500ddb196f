pub mod Errors
pub mod Outcomes
pub mod Commands
pub mod Laws
pub mod Collisions
pub mod Inner
