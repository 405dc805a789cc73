pub mod Asked
pub mod Changes
pub mod Costs
pub mod Free
pub mod InScope
pub mod MadeThings
