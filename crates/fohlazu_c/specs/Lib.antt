pub mod Statuses
pub mod Openings
pub mod Growing
