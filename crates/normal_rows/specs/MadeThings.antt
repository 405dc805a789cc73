-- What the code's values say of things that are made.
use Rattle.std.specs.Prelude.{◌≡◌}
use Rattle.normal_rows.specs.declared.made.Made as made
use Rattle.normal_task.specs.Parts.{Made}

-- what is made, and the new predicates that it needs, are those wanted
abbrev pub IsMadeOf : {A : Type 0} → Made A → made.Made A → Type 0
IsMadeOf wanted result = (result.items ≡ wanted.items) × (result.fresh ≡ wanted.fresh)
