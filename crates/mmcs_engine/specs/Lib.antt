pub mod Numbers
pub mod Faults
pub mod Input
pub mod Args
pub mod Text
pub mod Matrices
pub mod Program
pub mod Inner
