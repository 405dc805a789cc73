-- Lemmas of this crate.
pub mod LeftToRight
pub mod TurnSteps
pub mod MadeSame
mod FreeVariables
mod FirstItems
mod FreeNames
mod InnerScopes
