pub mod Bits
pub mod Facts
pub mod Finds
pub mod MarkLists
pub mod Search
