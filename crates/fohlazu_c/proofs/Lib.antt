mod CutFacts
mod EntryFacts
mod FrontierFacts
mod TextFacts
