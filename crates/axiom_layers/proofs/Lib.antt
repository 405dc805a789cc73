-- lemmas of this crate
mod Lifts
mod Found
