pub mod Messages
pub mod Inner
