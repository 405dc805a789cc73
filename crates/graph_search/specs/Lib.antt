-- what the public contract says
pub mod Reached
-- words of private contracts
pub mod Search
