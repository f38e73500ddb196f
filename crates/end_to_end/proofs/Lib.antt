mod RefusalFacts
mod SaltedFacts
mod ComparisonFacts
mod PathFacts
