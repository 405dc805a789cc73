-- Words of the code: the add effects of an action, gathered by variable.
use Rattle.std.specs.Prelude.{◌≡◌, ℕ, Bool, ◌==◌, ◌&&◌, List, [], map, length, if◌then◌else◌}
use Rattle.std.specs.List.{filter}
use Rattle.ground_task.specs.declared.types.Cond.{Cond}
use Rattle.reached_task.specs.declared.types.ReachedEffect.{ReachedEffect}
use Rattle.fdr_effects.specs.declared.rivals.Rival.{Rival}
use Rattle.fdr_effects.specs.Places.{Cover, places}
use Rattle.fdr_effects.specs.Effects.{rivals}

-- a rival's variable and condition
abbrev pub seen : Rival → ℕ × Cond ℕ
seen rival = (rival.var, rival.condition.now)

-- an add effect is a rival at each place of its fact
abbrev pub rivals_of : Cover → ReachedEffect → List (ℕ × Cond ℕ)
rivals_of cover e = if e.adds then map (λ p. (p.var, e.condition)) (places cover e.fact) else []

-- the conditions of rivals, and of those on a variable
abbrev pub conditions : List Rival → List (Cond ℕ)
conditions all = map (λ r. r.condition.now) all

abbrev pub conditions_on : ℕ → List Rival → List (Cond ℕ)
conditions_on var all = conditions (filter (λ r. r.var == var) all)

-- on each variable they are those of the add effects on its facts
abbrev pub AreRivals : Cover → List ReachedEffect → List Rival → Type 0
AreRivals cover effects all = (var : ℕ) → conditions_on var all ≡ rivals cover effects var

-- whether there are no literals
abbrev pub is_no_literal : Cond ℕ → Bool
is_no_literal literals = (length literals.positive == 0) && (length literals.negative == 0)
