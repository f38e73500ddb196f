-- What two openings of one cap lead to.
pub mod Extracted
pub mod Extraction
pub mod ExtractionFacts
