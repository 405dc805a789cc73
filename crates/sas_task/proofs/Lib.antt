-- laws, which other crates may cite
pub mod Checks
pub mod ValidParts
pub mod RisingPairs
pub mod Completion
pub mod Successors
pub mod States
pub mod KeepsLaws
pub mod Alike
pub mod TextsTellTasks
pub mod InOrder
pub mod Sorted
-- lemmas of this crate
mod Tells
mod Compared
mod Rising
