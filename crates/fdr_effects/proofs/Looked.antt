-- The variables that a split looks at, in order.
use Rattle.std.proofs.Common.{◌≡◌, ℕ, ◌<◌, Bool, true, false, ◌||◌, eqb, List, [], ◌∷◌, length, refl, sym, ap, ◌∙◌, subst, inl, inr}
use Rattle.std.specs.Prelude.{◌==◌}
use Rattle.std.specs.List.{Contains, filter, range_with_len, list_any, slice_get}
use Rattle.std.specs.List.Sorted.{IsStrictlyIncreasing}
use Rattle.std.specs.Option.{option_map_or}
use Rattle.std.proofs.lemmas.Bool.{eqb-true, eq-eqb, or_cases, false≢true}
use Rattle.std.proofs.lemmas.List.Kept.{IsStrictlyIncreasing-filter}
use Rattle.sas_task.specs.declared.parts.Pair.{Pair}
use Rattle.lists.proofs.Items.{filter_no}
use Rattle.lists.proofs.Members.{member_first, member_range, member_filter, filter_member, any_member, member_any}
use Rattle.ground_task.specs.declared.types.Cond.{Cond}
use Rattle.fdr_effects.specs.Places.{Cover, places, first_place, stands_in}
use Rattle.fdr_effects.specs.Split.{is_looked_at, values_left, combinations, split}
use Rattle.fdr_effects.proofs.Placed.{place_is, stands_below}
use Rattle.fdr_effects.proofs.Rising.{same_in_order}
use Rattle.lists.proofs.Ordered.{range_increasing}

-- the variables that are looked at are variables
module _ (cover : Cover) (literals : Cond ℕ) where
  abbrev test : ℕ → Bool
  test = is_looked_at cover literals

  abbrev is_first : ℕ → ℕ → Bool
  is_first var f = option_map_or (λ p. eqb p.var var) (first_place cover f) false

  first_below : (var f : ℕ) → is_first var f ≡ true → var < length cover
  first_below var f is = by_case (places cover f) (λ p in'. (place_is cover f p in').below) is
    where
      by_case : (ps : List Pair) → ((p : Pair) → Contains ps p → p.var < length cover) → option_map_or (λ p. eqb p.var var) (slice_get ps 0) false ≡ true → var < length cover
      by_case [] low none = absurd (false≢true none)
      by_case (p ∷ ps) low is = subst (λ v. v < length cover) (eqb-true p.var var is) (low p (member_first p ps))

  looked_below : (var : ℕ) → test var ≡ true → var < length cover
  looked_below var is =
      elim (or_cases (list_any (λ f. stands_in cover f var) literals.positive) (list_any (is_first var) literals.negative) is) [
        | inl pos ↦ let f = any_member (λ f. stands_in cover f var) literals.positive pos in stands_below cover f.0 var f.2
        | inr neg ↦ let f = any_member (is_first var) literals.negative neg in first_below var f.0 f.2
      ]

  -- in order they are those of the range
  pub looked_are : (vars : List ℕ) → IsStrictlyIncreasing vars → ((var : ℕ) → list_any (λ v. eqb v var) vars ≡ test var) → vars ≡ filter test (range_with_len 0 (length cover))
  looked_are vars up same =
      same_in_order vars (filter test (range_with_len 0 (length cover))) up (IsStrictlyIncreasing-filter test (range_with_len 0 (length cover)) (range_increasing (length cover)))
      (λ v in'.
      let is = sym (same v) ∙ member_any (λ w. eqb w v) vars v in' (eq-eqb v v refl) in
      member_filter test (range_with_len 0 (length cover)) v (member_range (length cover) v (looked_below v is)) is)
      (λ v in'.
      let is = filter_member test (range_with_len 0 (length cover)) v in' in
      let w = any_member (λ w. eqb w v) vars (same v ∙ is.1) in
      subst (Contains vars) (eqb-true w.0 v w.2) w.1)

-- where there are no literals, no variable is looked at, and there is one way
pub nothing_split : (cover : Cover) (literals : Cond ℕ) → literals.positive ≡ [] → literals.negative ≡ [] → split cover literals ≡ [] ∷ []
nothing_split cover literals wanted barred = ap (combinations (values_left cover literals)) (none (range_with_len 0 (length cover)))
  where
    out : (var : ℕ) → is_looked_at cover literals var ≡ false
    out var =
        ap (λ (facts : List ℕ). list_any (λ f. stands_in cover f var) facts || list_any (λ f. option_map_or (λ p. p.var == var) (first_place cover f) false) literals.negative) wanted
        ∙ ap (λ (facts : List ℕ). list_any (λ f. option_map_or (λ p. p.var == var) (first_place cover f) false) facts) barred

    none : (vars : List ℕ) → filter (is_looked_at cover literals) vars ≡ []
    none [] = refl
    none (var ∷ vars) = filter_no (is_looked_at cover literals) var vars (out var) ∙ none vars
