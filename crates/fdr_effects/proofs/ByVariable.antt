-- The members of a split stand by variable, so that what they say of a variable is found fast.
use Rattle.std.proofs.Common.{◌≡◌, ℕ, Bool, true, false, cond, eqb, ◌&&◌, ◌||◌, List, [], ◌∷◌, map, length, get_or, refl, sym, ap, ◌∙◌, subst, inl, inr, arith}
use Rattle.std.specs.List.{Contains, All, filter, list_any, range_with_len}
use Rattle.std.specs.List.Sorted.{IsNonDecreasingBy, IsStrictlyIncreasing}
use Rattle.std.proofs.lemmas.Bool.{cases_lt}
use Rattle.std.proofs.lemmas.List.Kept.{IsStrictlyIncreasing-filter}
use Rattle.sas_task.specs.declared.parts.Pair.{Pair}
use Rattle.lists.proofs.Members.{flat_map_member, all_from_members, map_member, member_single}
use Rattle.ground_task.specs.declared.types.Cond.{Cond}
use Rattle.sas_task.specs.Pairs.{pair}
use Rattle.fdr_effects.specs.Places.{Cover}
use Rattle.fdr_effects.specs.Split.{is_looked_at, values_left, combinations, split}
use Rattle.fdr_effects.specs.Marks.{on}
use Rattle.fdr_effects.proofs.Rising.{rising_from}
use Rattle.lists.proofs.Ordered.{range_increasing}

-- the variables of a combination are those that were asked for
combination_vars : (values : ℕ → List ℕ) (vars : List ℕ) (m : List Pair) → Contains (combinations values vars) m → map (λ p. p.var) m ≡ vars
combination_vars values [] m in' = ap (λ (l : List Pair). map (λ (p : Pair). p.var) l) (sym (member_single [] m in'))
combination_vars values (v ∷ vars) m in' =
    let val = flat_map_member (λ val. map (λ r. pair v val ∷ r) (combinations values vars)) (values v) m in' in
    let rest = map_member (λ r. pair v val.0 ∷ r) (combinations values vars) m val.2 in
    ap (λ (l : List Pair). map (λ (p : Pair). p.var) l) (sym rest.2) ∙ ap (λ l. v ∷ l) (combination_vars values vars rest.0 rest.1)

pub member_rises : (cover : Cover) (literals : Cond ℕ) (m : List Pair) → Contains (split cover literals) m → IsStrictlyIncreasing (map (λ p. p.var) m)
member_rises cover literals m in' =
    let vars = filter (is_looked_at cover literals) (range_with_len 0 (length cover)) in
    subst IsStrictlyIncreasing (sym (combination_vars (values_left cover literals) vars m in')) (IsStrictlyIncreasing-filter (is_looked_at cover literals) (range_with_len 0 (length cover)) (range_increasing (length cover)))

no_falls : (m : List Pair) → IsStrictlyIncreasing (map (λ p. p.var) m) → IsNonDecreasingBy (λ p. p.var) m
no_falls m rises i j d most within =
    elim (cases_lt i j) [
      | inl less ↦ let less' = rising_from (λ (p : Pair). p.var) m rises i j d less within in omega arith
      | inr past ↦ let same : i ≡ j = omega arith in let same' = ap (λ k. (get_or m k d).var) same in omega arith
    ]

pub members_by_variable : (cover : Cover) (literals : Cond ℕ) → All (IsNonDecreasingBy (λ p. p.var)) (split cover literals)
members_by_variable cover literals =
    all_from_members (IsNonDecreasingBy (λ p. p.var)) (split cover literals) (λ m in'. no_falls m (member_rises cover literals m in'))

-- the pairs on a variable are all that a test of the variable and the value looks at
pub any_on : (var : ℕ) (test : Pair → Bool) (ps : List Pair) → list_any test (on var ps) ≡ list_any (λ p. eqb p.var var && test p) ps
any_on var test [] = refl
any_on var test (p ∷ ps) = by_case (eqb p.var var) (any_on var test ps)
  where
    by_case : (b : Bool) → list_any test (on var ps) ≡ list_any (λ p. eqb p.var var && test p) ps → list_any test (cond b (p ∷ on var ps) (on var ps)) ≡ ((b && test p) || list_any (λ p. eqb p.var var && test p) ps)
    by_case true later = ap (λ b. test p || b) later
    by_case false later = later
