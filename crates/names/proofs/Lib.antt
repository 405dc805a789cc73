-- laws, which other crates may cite
pub mod SameNames
pub mod Reachability
pub mod Chains
-- lemmas of this crate
mod Tables
mod Evidence
mod CycleNames
mod ArcRows
