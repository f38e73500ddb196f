pub mod FormFacts
pub mod LevelFacts
pub mod SharedFacts
pub mod WalkFacts
pub mod ExtractFacts
mod ParentFacts
mod GroupFacts
mod OpenedFacts
mod PartFacts
mod ChildFacts
mod LayerFacts
mod PathFacts
mod RootFacts
mod PlaceFacts
mod QueryFacts
mod AgreeFacts
pub mod OnlyFacts
mod NeighbourFacts
mod EqualRuns
mod RefusalFacts
