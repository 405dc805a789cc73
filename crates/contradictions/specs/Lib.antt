pub mod Candidates
pub mod Contradictory
pub mod Closure
pub mod Merges
pub mod GivenTerms
pub mod Renamings
pub mod FirstFrom
pub mod Common
