-- What conditions are cut into.
use Rattle.std.specs.Prelude.{ℕ, Bool, true, List, [], map, if◌then◌else◌}
use Rattle.pddl_syntax.specs.declared.types.Domain.{Domain}
use Rattle.pddl_syntax.specs.declared.types.Problem.{Problem}
use Rattle.pddl_syntax.specs.declared.types.Typed.{Typed}
use Rattle.action_schemas.specs.declared.effects.Required.{Required}
use Rattle.normal_task.specs.declared.parts.Part.{Part}
use Rattle.normal_task.specs.Parts.{Made, Scope, Known, in_turn, all_of, parts, exists_inside, none_inside}

-- what comes of the members of a list: every pairing where every member must hold, or else one after another
abbrev pub combined : Bool → ℕ → List (ℕ → Made Part) → ℕ → Made Part
combined every around makes next = if every then all_of around makes next else in_turn makes next

-- what is made of something: its parts only where they are wanted, and its new predicates in any case
abbrev pub wanted_of : Bool → Made Part → Made Part
wanted_of wanted made = record { items = if wanted then made.items else []; fresh = made.fresh }

-- some objects of the variables make the inside true, or its negation, or none do
abbrev pub quantified : Domain → Problem → List Typed → Known → (some positive : Bool) → Scope → (around next : ℕ) → Made Part
quantified domain problem variables inside some positive scope around next =
    if some then exists_inside domain problem variables inside positive scope around next else none_inside domain problem variables inside positive scope around next

-- how what is required is cut, in the scope in which it was met
abbrev pub cut_of : Domain → Problem → Required → ℕ → ℕ → Made Part
cut_of domain problem required around = parts domain problem required.condition.now true required.scope.now around

abbrev pub cuts_of : Domain → Problem → List Required → List (ℕ → ℕ → Made Part)
cuts_of domain problem list = map (cut_of domain problem) list
