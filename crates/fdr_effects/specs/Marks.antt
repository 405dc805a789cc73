-- Words of the code: marks, which are places, gathered and looked at variable by variable.
use Rattle.std.specs.Prelude.{ℕ, ◌+◌, Bool, ◌==◌, nat_eq, ◌&&◌, not, List, [], ◌∷◌, map, if◌then◌else◌}
use Rattle.std.specs.List.{list_all, filter, range_with_len, position_or_len}
use Rattle.lists.specs.Members.{is_among}
use Rattle.sas_task.specs.declared.parts.Pair.{Pair}
use Rattle.sas_task.specs.Pairs.{pair}
use Rattle.fdr_effects.specs.Places.{Cover, last_value}

-- the place of a fact in the set of a variable, where it has one
abbrev pub place_in : ℕ → List ℕ → ℕ → List Pair
place_in var set fact = if is_among nat_eq set fact then pair var (position_or_len (nat_eq fact) set) ∷ [] else []

-- the marks on a variable
abbrev pub on : ℕ → List Pair → List Pair
on var marks = filter (λ p. p.var == var) marks

-- whether marks on one variable leave the value: each wanted one is on it, and no barred one is
abbrev pub leaves : List Pair → List Pair → ℕ → Bool
leaves wanted barred val = list_all (λ p. p.val == val) wanted && list_all (λ p. not (p.val == val)) barred

-- the pairs of a variable with each of so many values that its marks leave
abbrev pub pool : ℕ → ℕ → List Pair → List Pair → List Pair
pool var values wanted barred = map (pair var) (filter (leaves wanted barred) (range_with_len 0 values))

-- the values that the marks leave to a variable
abbrev pub values_marked : Cover → List Pair → List Pair → ℕ → List ℕ
values_marked cover wanted barred var = filter (leaves (on var wanted) (on var barred)) (range_with_len 0 (last_value cover var + 1))
