pub mod Lines
pub mod Texts
pub mod Reading
pub mod Laws
pub mod Inner
pub mod Examples
pub mod InPlace
