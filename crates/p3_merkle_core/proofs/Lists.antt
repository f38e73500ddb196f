-- Lists, whatever they are lists of, and matrices as the definitions read them.
pub mod ListFacts
pub mod RisingFacts
pub mod DedupFacts
pub mod GroupFacts
pub mod ViewFacts
