-- laws, which other crates may cite
pub mod FormedParts
pub mod OnePredicate
pub mod Extended
pub mod Sound
pub mod Weights
pub mod Verdicts
-- lemmas of this crate
mod Countings
mod Listed
mod PartsOf
mod NamedAnew
mod Bindings
mod OneStep
mod InFiles
mod AddCases
mod Choices
mod TriedSteps
mod Matching
mod Orders
mod InOrder
mod TouchedSchemas
mod BesideParts
mod AtOnce
mod NearParts
