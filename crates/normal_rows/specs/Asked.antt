-- The variables that a quantified condition asks for.
use Rattle.std.specs.List.{list_any}
use Rattle.std.specs.Prelude.{Bool, List, not, ◌&&◌}
use Rattle.pddl_syntax.specs.Words.{Name, is_same}

-- the name is free, and none of the inner ones
abbrev pub asks : (free inner : List Name) → Name → Bool
asks free inner name = list_any (is_same name) free && not (list_any (is_same name) inner)
