-- The lemmas of this crate.
mod SaltedAnswers
mod SaltedAlone
mod SplitFacts
mod CommitFacts
mod ExtractedFacts
mod SaltedCommitmentFacts
mod SchemeFacts
mod BindingFacts
mod SameNodes
mod SaltedBindingFacts
mod LoopFacts
pub mod SaltFacts
mod DrawFacts
pub mod JoinedFacts
mod OnlyFacts
pub mod SaltedExtractionFacts
pub mod VerdictFacts
pub mod OpenedFacts
pub mod CapFacts
pub mod AuthenticFacts
pub mod CheckFacts
pub mod CommitmentFacts
