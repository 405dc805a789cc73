pub mod Cuts
pub mod SchemaRows
