-- lemmas of this crate
mod NewNames
mod FoundTypes
mod AskedTypes
mod Ranges
mod TypeRanges
mod KnownTypes
