pub mod OperatorCosts
pub mod Theorem
pub mod RunTask
pub mod OneTask
