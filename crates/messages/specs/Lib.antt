pub mod Messages
pub mod Outcome
-- The words of private contracts.
pub mod Pieces
