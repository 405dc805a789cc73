-- The first of the positions of several lists, names that stand a second time, and the values of `:init`.
pub mod Earliest
pub mod Joined
pub mod FirstPositions
pub mod RepeatedNames
pub mod InitialEntries
-- Lemmas of this crate.
mod AtomKeys
mod HeadTables
mod MentionPositions
mod UsePositions
mod NameTests
mod Capping
mod ConditionSizes
mod EffectCuts
mod Pieces
