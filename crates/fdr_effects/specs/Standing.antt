-- Words of the code: literals that rule out others, and the choices that can stand beside the cause of a delete effect,
-- which is its condition with its fact.
use Rattle.std.specs.Prelude.{◌≡◌, ℕ, Bool, true, false, ◌==◌, ◌&&◌, ◌||◌, not, List, ◌++◌, map, length, Contains, if◌then◌else◌}
use Rattle.std.specs.List.{list_any, list_all, filter, filter_map, flat_map}
use Rattle.std.specs.List.Sorted.{IsNonDecreasingBy}
use Rattle.std.specs.Option.{option_map_or}
use Rattle.sas_task.specs.declared.parts.Pair.{Pair}
use Rattle.sas_task.specs.declared.parts.Effect.{Effect}
use Rattle.sas_task.specs.Pairs.{pair}
use Rattle.ground_task.specs.declared.types.Cond.{Cond}
use Rattle.fdr_effects.specs.declared.literals.Literal.{Literal}
use Rattle.fdr_effects.specs.Places.{Cover, places, first_place, last_value}
use Rattle.fdr_effects.specs.Effects.{both, no_literals, is_true, is_false, sets_where, negated_choices}
use Rattle.fdr_effects.specs.Split.{split}

-- literals over a cover
pub record Over : Type 0 where
  pub cover : Cover
  pub literals : Cond ℕ

-- a literal alone, and the negation of each literal
abbrev pub alone : Literal → Cond ℕ
alone one = if one.truth then is_true one.fact else is_false one.fact

abbrev pub turned : Cond ℕ → List Literal
turned literals = map (λ fact. record { fact = fact; truth = false }) literals.positive ++ map (λ fact. record { fact = fact; truth = true }) literals.negative

-- whether some values meet the literals
abbrev pub can_stand : Cover → Cond ℕ → Bool
can_stand cover literals = not (length (split cover literals) == 0)

-- of some choices those that can stand beside the cause
abbrev pub standing : Cover → Cond ℕ → List (Cond ℕ) → List (Cond ℕ)
standing cover cause choices = filter (λ choice. can_stand cover (both cause choice)) choices

-- the literals of one list are among those of another
pub record AreWithin (few all : Cond ℕ) : Type 0 where
  pub positive : (fact : ℕ) → Contains few.positive fact → Contains all.positive fact
  pub negative : (fact : ℕ) → Contains few.negative fact → Contains all.negative fact

-- whether there is one literal, and the negation of one that is alone
abbrev pub is_alone : Cond ℕ → Bool
is_alone literals =
    ((length literals.positive == 1) && (length literals.negative == 0)) || ((length literals.positive == 0) && (length literals.negative == 1))

abbrev pub forced_by : Cond ℕ → Cond ℕ
forced_by literals = if is_alone literals then record { positive = literals.negative; negative = literals.positive } else no_literals

-- the cause with literals that each choice from the conditions has
pub record AreForced (cause : Cond ℕ) (conditions : List (Cond ℕ)) (all : Cond ℕ) : Type 0 where
  pub with_cause : AreWithin cause all
  pub in_each : (choice : Cond ℕ) → Contains (negated_choices conditions) choice → AreWithin all (both cause choice)

-- what a cause with the choices from some conditions sets on the variable
abbrev pub chosen : Cover → Cond ℕ → ℕ → List (Cond ℕ) → List Effect
chosen cover cause var conditions = flat_map (λ choice. sets_where cover (pair var (last_value cover var)) (both cause choice)) (negated_choices conditions)

-- whether the pair is at its variable, and whether it is there beside another value
abbrev pub is_at : Pair → Pair → Bool
is_at p q = (q.var == p.var) && (q.val == p.val)

abbrev pub is_beside : Pair → Pair → Bool
is_beside p q = (q.var == p.var) && not (q.val == p.val)

-- whether the literals ask for the place, or for another value of its variable, or bar it
abbrev pub asks : Over → Pair → Bool
asks over p = list_any (is_at p) (flat_map (places over.cover) over.literals.positive)

abbrev pub asks_beside : Over → Pair → Bool
asks_beside over p = list_any (is_beside p) (flat_map (places over.cover) over.literals.positive)

abbrev pub bars : Over → Pair → Bool
bars over p = list_any (is_at p) (filter_map (first_place over.cover) over.literals.negative)

abbrev pub leaves_out : Over → Pair → Bool
leaves_out over p = asks_beside over p || bars over p

-- whether no values meet the literals and this one, as its own places show
abbrev pub rules_out : Over → Literal → Bool
rules_out over one =
    if one.truth then list_any (leaves_out over) (places over.cover one.fact) else option_map_or (asks over) (first_place over.cover one.fact) false

-- whether the literals rule out a fact that they want to be true
abbrev pub is_contradicted : Over → Bool
is_contradicted over = list_any (λ fact. rules_out over record { fact = fact; truth = true }) over.literals.positive

-- whether the literals show that others hold: the negation of each is ruled out
abbrev pub shows : Over → Cond ℕ → Bool
shows over others =
    list_all (λ fact. rules_out over record { fact = fact; truth = false }) others.positive
    && list_all (λ fact. rules_out over record { fact = fact; truth = true }) others.negative

-- the places of the facts that are to be true, and the first place of each that is to be false, in any order
pub record AreMarks (over : Over) (wanted barred : List Pair) : Type 0 where
  pub wants : (test : Pair → Bool) → list_any test wanted ≡ list_any test (flat_map (places over.cover) over.literals.positive)
  pub bars : (test : Pair → Bool) → list_any test barred ≡ list_any test (filter_map (first_place over.cover) over.literals.negative)
  pub wanted_in_order : IsNonDecreasingBy (λ p. p.var) wanted
  pub barred_in_order : IsNonDecreasingBy (λ p. p.var) barred
