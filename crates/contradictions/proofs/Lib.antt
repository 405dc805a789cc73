-- laws, which other crates may cite
pub mod Contradiction
pub mod Closure
pub mod Covering
pub mod SamePlaces
pub mod Cases
-- lemmas of this crate
mod EachOnce
mod MergeSteps
mod Shared
