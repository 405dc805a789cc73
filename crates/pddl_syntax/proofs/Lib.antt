-- laws, which other crates may cite
pub mod ConditionCases
pub mod EffectCases
pub mod SameAtoms
pub mod TypeChains
pub mod Steps
pub mod Rows
pub mod Readings
pub mod Sections
pub mod Given
pub mod Spelling
pub mod Numbers
-- lemmas of this crate
mod Places
mod OwnFaults
mod Digits
mod Groups
mod Eithers
mod Nested
mod NestedEffects
mod Written
mod IdleSteps
mod WorkedPair
