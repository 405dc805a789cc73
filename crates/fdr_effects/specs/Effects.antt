-- The effects of an action's operators.
use Rattle.std.specs.Prelude.{ℕ, ◌&&◌, List, [], ◌∷◌, ◌++◌, map, if◌then◌else◌}
use Rattle.std.specs.List.{filter, flat_map}
use Rattle.sas_task.specs.declared.parts.Pair.{Pair}
use Rattle.sas_task.specs.declared.parts.Effect.{Effect}
use Rattle.ground_task.specs.declared.types.Cond.{Cond}
use Rattle.reached_task.specs.declared.types.ReachedEffect.{ReachedEffect}
use Rattle.sas_task.specs.Pairs.{pair}
use Rattle.fdr_effects.specs.Places.{Cover, places, stands_in, last_value}
use Rattle.fdr_effects.specs.Split.{split}

-- no literals, one positive literal, one negative literal, and the literals of both lists
abbrev pub no_literals : Cond ℕ
no_literals = record { positive = []; negative = [] }

abbrev pub is_true : ℕ → Cond ℕ
is_true fact = record { positive = fact ∷ []; negative = [] }

abbrev pub is_false : ℕ → Cond ℕ
is_false fact = record { positive = []; negative = fact ∷ [] }

abbrev pub both : Cond ℕ → Cond ℕ → Cond ℕ
both a b = record { positive = a.positive ++ b.positive; negative = a.negative ++ b.negative }

-- the negation of each literal of the list
abbrev pub negations : Cond ℕ → List (Cond ℕ)
negations literals = map is_false literals.positive ++ map is_true literals.negative

-- for each choice of one literal from each list, their negations
abbrev pub negated_choices : List (Cond ℕ) → List (Cond ℕ)
negated_choices [] = no_literals ∷ []
negated_choices (literals ∷ lists) = flat_map (λ one. map (both one) (negated_choices lists)) (negations literals)

-- the conditions of the add effects of the list on any fact of the variable
abbrev pub rivals : Cover → List ReachedEffect → ℕ → List (Cond ℕ)
rivals cover effects var = map (λ e. e.condition) (filter (λ e. e.adds && stands_in cover e.fact var) effects)

-- where the literals hold, the pair's variable is set to its value: one effect for each member of their split
abbrev pub sets_where : Cover → Pair → Cond ℕ → List Effect
sets_where cover p literals = map (λ m. record { conditions = m; var = p.var; after = p.val }) (split cover literals)

-- a delete effect sets a variable of its fact to the last value where its condition holds, its fact holds, and no add effect of the action on any fact of the variable fires
abbrev pub deletes_in : Cover → List ReachedEffect → ReachedEffect → ℕ → List Effect
deletes_in cover effects e var =
    flat_map (λ choice. sets_where cover (pair var (last_value cover var)) (both e.condition (both (is_true e.fact) choice))) (negated_choices (rivals cover effects var))

-- the effects at each place of the fact: an add effect sets the variable to the fact where its condition holds
abbrev pub effects_at : Cover → List ReachedEffect → ReachedEffect → List Effect
effects_at cover effects e =
    flat_map (λ p. if e.adds then sets_where cover p e.condition else deletes_in cover effects e p.var) (places cover e.fact)

abbrev pub effects_of : Cover → List ReachedEffect → List Effect
effects_of cover effects = flat_map (effects_at cover effects) effects
