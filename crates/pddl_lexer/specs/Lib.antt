-- what a reader of the contracts believes
pub mod Positions
pub mod Text
pub mod Tokens
pub mod Members
pub mod Nested
pub mod Faults
pub mod Kinds
pub mod Examples
-- words of private contracts: how the code passes over a text, and how it keeps a tree
pub mod Scanner
pub mod Builder
pub mod Nodes
pub mod Kept
