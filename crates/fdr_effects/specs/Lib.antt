pub mod Places
pub mod Split
pub mod Marks
pub mod Effects
pub mod Rivals
pub mod Standing
pub mod Groups
