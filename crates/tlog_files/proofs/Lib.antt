mod FramingFacts
pub mod FramedFiles
mod LimitedFacts
mod ReaderFacts
mod SplitterFacts
mod WantedFacts
