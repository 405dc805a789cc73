-- what the public contracts say
pub mod Names
pub mod Reachability
pub mod Links
pub mod Arcs
-- words of private contracts
pub mod Components
pub mod Cycles
