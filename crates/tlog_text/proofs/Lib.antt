pub mod Base64Facts
pub mod LineFacts
pub mod NoteLaws
pub mod ProofLaws
pub mod ReadFacts
pub mod TestFacts
pub mod InPlaceFacts
