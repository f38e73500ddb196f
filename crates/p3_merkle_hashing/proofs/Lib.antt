pub mod LaneFacts
pub mod StageFacts
