-- what the pass owes and gets, which crates above cite
mod Reached
pub mod Alone
pub mod Pruned
pub mod OneProof
