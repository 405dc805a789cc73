-- lemmas of this crate
mod Cuts
mod SolutionCosts
mod CostTables
mod PassedLines
