-- Lemmas of this crate.
mod FreshAxioms
mod WholeTask
mod OnceSteps
mod WrittenNames
