pub mod CollisionFacts
pub mod EntryLaws
pub mod GrowthLaws
pub mod OutcomeFacts
pub mod ProveFacts
pub mod RunFacts
pub mod SealLaws
pub mod SortedFacts
