-- What a reader must believe: where the faults of each kind stand in a domain and a problem.
pub mod Positions
pub mod Mentions
pub mod Links
pub mod Names
pub mod Scopes
pub mod Initial
pub mod Increases
pub mod Sizes
-- Words of the contracts: what the lists of mentions and the table of what is declared say.
pub mod Seen
pub mod Mentioned
-- Words of the contracts of private functions. No public clause has them.
pub mod AtomTables
pub mod Heads
pub mod Uses
pub mod Arguments
pub mod CappedSizes
