pub mod Possible
pub mod Pruned
pub mod Examples
