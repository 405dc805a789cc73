-- words of private contracts
pub mod Influences
