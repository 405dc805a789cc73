-- The numbers of the variables in scope, in a table.
use Rattle.std.specs.Prelude.{◌≡◌, ℕ}
use Rattle.std.specs.Borrow.{Bor}
use Rattle.std.specs.Option.{option_map}
use Rattle.indexmap.specs.IndexMap.{IndexMap, get}
use Rattle.pddl_syntax.specs.Words.{Name, is_same}
use Rattle.normal_task.specs.Parts.{Scope, slot_of}

-- the table gives each name the number of the innermost variable of that name
abbrev pub HasNumbers : {S : Type 0} → Scope → IndexMap (Bor Name) ℕ S → Type 0
HasNumbers scope table = (name : Bor Name) → get (λ a b. is_same a.now b.now) table name ≡ option_map (λ slot. slot.place) (slot_of scope name.now)
