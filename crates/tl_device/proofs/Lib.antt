mod EntryLemmas
mod FilesLemmas
pub mod Grown
pub mod Known
mod Names
mod Rest
