-- The check of an opening: its inputs, what it reaches, and when it is accepted.
pub mod InputFacts
pub mod PathFacts
pub mod OneHeightFacts
pub mod CheckFacts
pub mod Completeness
pub mod Binding
pub mod SameIndex
pub mod Verdicts
pub mod OwnNodes
