-- laws, which other crates may cite
pub mod Positions
pub mod Places
pub mod Lowered
-- lemmas of this crate
mod Building
mod Reading
mod ReaderTurns
mod Unique
mod Examples
mod Spelled
