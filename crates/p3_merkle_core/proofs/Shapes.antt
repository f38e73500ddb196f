-- The shape of a tree: heights, exponents, steps, the lengths of layers, caps.
pub mod LeastFacts
pub mod GateFacts
pub mod ArityFacts
pub mod StepFacts
pub mod ExponentFacts
pub mod FallFacts
pub mod LadderFacts
pub mod RawFacts
pub mod LevelFacts
pub mod SiblingFacts
pub mod CapFacts
pub mod QuotientFacts
pub mod OneHeight
pub mod Widened
