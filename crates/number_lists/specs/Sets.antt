-- Lists of numbers, each of which stands once.
use Rattle.std.specs.Prelude.{ℕ, Bool, List, [], ◌∷◌, ◌++◌, if◌then◌else◌}
use Rattle.std.specs.List.{list_any}
use Rattle.names.specs.Names.{is_same}

-- the list is one of these
abbrev pub has_list : List (List ℕ) → List ℕ → Bool
has_list lists list = list_any (is_same list) lists

-- the lists with one more behind them, if it isn't among them
abbrev pub with_list : List (List ℕ) → List ℕ → List (List ℕ)
with_list lists list = if has_list lists list then lists else lists ++ list ∷ []
