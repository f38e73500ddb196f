-- Why pruned openings are refused, and what is answered to them.
pub mod SlotFacts
pub mod SortedFacts
pub mod LeadFacts
pub mod AgreeFacts
pub mod PrunedFacts
pub mod NoneFacts
pub mod Answered
pub mod Unrefused
pub mod HonestAnswered
pub mod Refused
