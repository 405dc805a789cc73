-- laws, which other crates may cite
pub mod Sets
pub mod Placed
pub mod Rising
pub mod ByVariable
pub mod Grouped
-- lemmas of this crate
mod NegatedChoices
mod Looked
mod Indexed
mod Marked
mod AddEffects
mod Combined
mod OneWay
mod Contradicted
mod StandingChoices
