pub mod FoldSteps
pub mod Transposed
pub mod Written
pub mod Pieces
pub mod Groups
