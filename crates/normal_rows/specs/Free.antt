-- The names of free variables.
use Rattle.std.specs.Prelude.{◌≡◌, Bool, List, not, ◌&&◌, ◌||◌}
use Rattle.std.specs.List.{list_any}
use Rattle.pddl_syntax.specs.declared.types.Condition.{Condition}
use Rattle.pddl_syntax.specs.declared.types.Domain.{Domain}
use Rattle.pddl_syntax.specs.declared.types.Problem.{Problem}
use Rattle.pddl_syntax.specs.declared.types.Typed.{Typed}
use Rattle.pddl_syntax.specs.Words.{Name, is_same}
use Rattle.normal_task.specs.Parts.{known, is_listed}

-- the names are those of before, and those that the test asks for, but for the bound ones
abbrev pub AddsUnbound : (Name → Bool) → (bound before after : List Name) → Type 0
AddsUnbound asks bound before after = (name : Name) → list_any (is_same name) after ≡ ((asks name && not (list_any (is_same name) bound)) || list_any (is_same name) before)

-- the variable is free inside a list of variables
abbrev pub is_wanted : Domain → Problem → List Typed → Condition → Name → Bool
is_wanted domain problem variables inside name = not (is_listed variables name) && (known domain problem inside).is_free name
