-- laws, which other crates may cite
pub mod Sets
-- lemmas of this crate
mod Tables
