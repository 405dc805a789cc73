-- lemmas of this crate
mod Chains
mod Held
