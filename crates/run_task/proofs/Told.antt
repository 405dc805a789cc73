-- Where the names of some things tell their costs, those of things that come from them do too.
use Rattle.std.proofs.Common.{◌≡◌, List, sym, ◌∙◌}
use Rattle.std.specs.List.{Contains}
use Rattle.pddl_syntax.specs.Words.{Name}

-- things of one name have one cost
abbrev pub Tells : {A C : Type 0} → (A → Name) → (A → C) → List A → Type 0
Tells {A} name cost xs = (a b : A) → Contains xs a → Contains xs b → name a ≡ name b → cost a ≡ cost b

-- a thing with the name and the cost
abbrev pub IsFrom : {A C : Type 0} → (A → Name) → (A → C) → List A → Name → C → Type 0
IsFrom {A} name cost xs its_name its_cost = (a : A) × Contains xs a × (its_name ≡ name a) × (its_cost ≡ cost a)

pub tell_too : {A B C : Type 0} (name : A → Name) (cost : A → C) (name' : B → Name) (cost' : B → C) (xs : List A) (ys : List B) →
    ((y : B) → Contains ys y → IsFrom name cost xs (name' y) (cost' y)) → Tells name cost xs → Tells name' cost' ys
tell_too name cost name' cost' xs ys from tells y z in-y in-z same =
    let one = from y in-y in
    let other = from z in-z in
    one.3 ∙ tells one.0 other.0 one.1 other.1 (sym one.2 ∙ same ∙ other.2) ∙ sym other.3
