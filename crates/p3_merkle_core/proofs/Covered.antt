-- The nodes that queries cover, the values of their children, and the boundary beside them.
pub mod Under
pub mod CoveredFacts
pub mod ClimbFacts
pub mod ChildFacts
pub mod ValueFacts
pub mod KeptFacts
pub mod Sufficient
pub mod Minimal
pub mod Restoration
pub mod Equivalence
pub mod SizeFacts
pub mod Alone
pub mod OnlyFacts
