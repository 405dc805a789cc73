-- what a pass owes and gets, which crates above cite
pub mod Exact
pub mod Numbers
pub mod Alike
pub mod Shown
pub mod Valid
pub mod Closed
pub mod Stands
pub mod Steps
pub mod Arranged
pub mod Told
pub mod AllValues
pub mod Order
pub mod Renumbered
pub mod Reordered
pub mod Relevance
pub mod Reduced
pub mod OneProof
-- lemmas of this crate
mod Pairs
mod Places
mod Rising
mod Shape
mod Completed
mod Pieces
mod Joined
