-- The predicates that an effect is on.
use Rattle.std.specs.Prelude.{Bool, false}
use Rattle.std.specs.List.{list_any}
use Rattle.pddl_syntax.specs.declared.types.Effect.{Effect, Effect-F, fold-Effect}
use Rattle.pddl_syntax.specs.Words.{Name, is_same}

-- One layer of an effect, with the answers of the effects inside in place of them.
abbrev pub is_written_step : Effect-F (Name → Bool) → Name → Bool
is_written_step (Effect-F.Nothing at) name = false
is_written_step (Effect-F.Add atom) name = is_same atom.predicate.name name
is_written_step (Effect-F.Delete atom) name = is_same atom.predicate.name name
is_written_step (Effect-F.And members at) name = list_any (λ member. member name) members
is_written_step (Effect-F.When condition inside at) name = inside name
is_written_step (Effect-F.Forall variables inside at) name = inside name
is_written_step (Effect-F.Increase term cost at) name = false

-- the effect adds or deletes atoms of the predicate
abbrev pub is_written : Effect → Name → Bool
is_written = fold-Effect (Name → Bool) is_written_step
