-- An entry of files in memory, as its contracts see it.
use Rattle.std.specs.Prelude.{ℕ, List}
use Rattle.std.specs.declared.option.Option.{Option}

-- an entry: a name, what its file holds, if it exists, and its room, if it has any
pub record EntryState : Type 0 where
  pub name : List ℕ
  pub file : Option (List ℕ)
  pub room : Option ℕ
