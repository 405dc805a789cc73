-- How the contracts of files and of a console in memory see them. What `Contents` and `Causes` say of every store and
-- every console needs none of it.
pub mod CallsState
pub mod ConsoleState
pub mod Entries
pub mod EntryState
pub mod FilesState
