-- laws, which other crates may cite
pub mod ReachedMeaning
pub mod Numbers
pub mod OrderedFacts
pub mod OneLayers
pub mod LongLists
pub mod LawfulReached
-- lemmas of this crate
mod LawfulTask
mod ShownNames
mod KeyedAtoms
mod SameFacts
mod AlikeTasks
