pub mod Entries
pub mod Examples
pub mod Logs
pub mod Inner
