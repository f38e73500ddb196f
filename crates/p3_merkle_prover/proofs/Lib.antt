pub mod TreeFacts
pub mod OwnFacts
pub mod RowFacts
pub mod BoundaryFacts
pub mod LayerFacts
pub mod BuildFacts
pub mod NodeFacts
