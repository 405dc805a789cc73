-- Lemmas of this crate.
mod CutSteps
mod WantedParts
mod SomeParts
mod EffectRows
mod SchemaRows
