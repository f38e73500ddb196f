pub mod Lanewise
pub mod Written
pub mod Majority
pub mod Padding
