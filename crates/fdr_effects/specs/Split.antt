-- The split of a list of literals: all ways in which variables can satisfy it.
use Rattle.std.specs.Prelude.{ℕ, ◌+◌, Bool, true, false, ◌==◌, ◌&&◌, ◌||◌, not, List, [], ◌∷◌, map, length}
use Rattle.std.specs.List.{list_any, list_all, filter, flat_map, range_with_len}
use Rattle.std.specs.Option.{option_map_or}
use Rattle.sas_task.specs.declared.parts.Pair.{Pair}
use Rattle.ground_task.specs.declared.types.Cond.{Cond}
use Rattle.sas_task.specs.Pairs.{pair}
use Rattle.fdr_effects.specs.Places.{Cover, places, first_place, stands_in, last_value}

-- whether the variable is looked at: it has a place of a positive literal's fact, or the first place of a negative literal's
abbrev pub is_looked_at : Cover → Cond ℕ → ℕ → Bool
is_looked_at cover literals var =
    list_any (λ f. stands_in cover f var) literals.positive
    || list_any (λ f. option_map_or (λ p. p.var == var) (first_place cover f) false) literals.negative

-- whether the literals leave the value: a positive literal leaves its value alone at each place, and a negative one takes its value away at its first place
abbrev pub is_left : Cover → Cond ℕ → ℕ → ℕ → Bool
is_left cover literals var val =
    list_all (λ f. list_all (λ p. not (p.var == var) || (p.val == val)) (places cover f)) literals.positive
    && list_all (λ f. option_map_or (λ p. not ((p.var == var) && (p.val == val))) (first_place cover f) true) literals.negative

-- the values that the literals leave to the variable
abbrev pub values_left : Cover → Cond ℕ → ℕ → List ℕ
values_left cover literals var = filter (is_left cover literals var) (range_with_len 0 (last_value cover var + 1))

-- all ways to give each variable of the list one of its values
abbrev pub combinations : (ℕ → List ℕ) → List ℕ → List (List Pair)
combinations values [] = [] ∷ []
combinations values (var ∷ vars) =
    flat_map (λ val. map (λ rest. pair var val ∷ rest) (combinations values vars)) (values var)

-- all combinations of the values that the literals leave, one for each variable that is looked at
abbrev pub split : Cover → Cond ℕ → List (List Pair)
split cover literals =
    combinations (values_left cover literals) (filter (is_looked_at cover literals) (range_with_len 0 (length cover)))
