-- What literals leave, read from the marks that they make, variable by variable.
use Rattle.std.proofs.Common.{◌≡◌, ℕ, ◌+◌, ◌<◌, Bool, true, false, cond, not, eqb, ◌&&◌, ◌||◌, Option, Some, None, List, [], ◌∷◌, map, refl, sym, ap, ◌∙◌, subst, inl, inr, arith}
use Rattle.std.specs.Cmp.{both_ways as same_tests}
use Rattle.std.specs.List.{All, Contains, filter, filter_map, flat_map, range_with_len, list_all, list_any, cons_option, dedup, slice_get}
use Rattle.std.specs.List.Sorted.{IsPermutation}
use Rattle.std.specs.Option.{option_map_or}
use Rattle.std.proofs.lemmas.Bool.{cases_Bool, both_ways, eqb-true, and_parts, false_from_ne_true, cond-true, cond-false}
use Rattle.std.proofs.lemmas.List.Sums.{AllPass-from_list_all, list_all-from_AllPass}
use Rattle.std.proofs.lemmas.List.Elements.{All-contains}
use Rattle.std.proofs.lemmas.List.Sorted.{IsPermutation-sym, All-permutation, list_any-IsPermutation}
use Rattle.std.proofs.lemmas.List.Kept.{IsStrictlyIncreasing-filter, Contains-dedup_nat, Contains-from_dedup}
use Rattle.lists.proofs.Items.{any_flat_map, all_flat_map}
use Rattle.sas_task.specs.declared.parts.Pair.{Pair}
use Rattle.lists.proofs.Members.{member_first, member_range, filter_none, flat_map_member, all_from_members, map_member, member_filter, filter_member, any_member, member_any, member_single}
use Rattle.ground_task.specs.declared.types.Cond.{Cond}
use Rattle.sas_task.specs.Pairs.{pair}
use Rattle.fdr_effects.specs.Places.{Cover, set_of, places, first_place, last_value}
use Rattle.fdr_effects.specs.Split.{is_looked_at, is_left, values_left}
use Rattle.fdr_effects.specs.Marks.{on, leaves, pool, values_marked}
use Rattle.fdr_effects.proofs.Grouped.{filter_map_member}
use Rattle.fdr_effects.proofs.Sets.{place_below}
use Rattle.fdr_effects.proofs.Placed.{place_is}
use Rattle.fdr_effects.proofs.Rising.{same_in_order}
use Rattle.fdr_effects.proofs.Grouped.{first_listed}
use Rattle.lists.proofs.Ordered.{range_increasing}

all_permutation : {X : Type 0} (p : X → Bool) (xs ys : List X) → IsPermutation xs ys → list_all p xs ≡ list_all p ys
all_permutation p xs ys moved =
    same_tests (list_all p xs) (list_all p ys)
    (λ h. list_all-from_AllPass p ys (All-permutation (λ x. p x ≡ true) xs ys moved (AllPass-from_list_all p xs h)))
    (λ h. list_all-from_AllPass p xs (All-permutation (λ x. p x ≡ true) ys xs (IsPermutation-sym xs ys moved) (AllPass-from_list_all p ys h)))

all_filter_map : {X Y : Type 0} (p : Y → Bool) (f : X → Option Y) (xs : List X) → list_all p (filter_map f xs) ≡ list_all (λ x. option_map_or p (f x) true) xs
all_filter_map p f [] = refl
all_filter_map {X} {Y} p f (x ∷ xs) = by_case (f x) (all_filter_map p f xs)
  where
    by_case : (o : Option Y) → list_all p (filter_map f xs) ≡ list_all (λ x. option_map_or p (f x) true) xs → list_all p (cons_option o (filter_map f xs)) ≡ (option_map_or p o true && list_all (λ x. option_map_or p (f x) true) xs)
    by_case (Some y) later = ap (λ b. p y && b) later
    by_case None later = later

any_filter_map : {X Y : Type 0} (p : Y → Bool) (f : X → Option Y) (xs : List X) → list_any p (filter_map f xs) ≡ list_any (λ x. option_map_or p (f x) false) xs
any_filter_map p f [] = refl
any_filter_map {X} {Y} p f (x ∷ xs) = by_case (f x) (any_filter_map p f xs)
  where
    by_case : (o : Option Y) → list_any p (filter_map f xs) ≡ list_any (λ x. option_map_or p (f x) false) xs → list_any p (cons_option o (filter_map f xs)) ≡ (option_map_or p o false || list_any (λ x. option_map_or p (f x) false) xs)
    by_case (Some y) later = ap (λ b. p y || b) later
    by_case None later = later

-- the marks on a variable speak for all
module _ (var val : ℕ) where
  wanted_on : (ps : List Pair) → list_all (λ p. not (eqb p.var var) || eqb p.val val) ps ≡ list_all (λ p. eqb p.val val) (on var ps)
  wanted_on [] = refl
  wanted_on (p ∷ ps) = by_case (eqb p.var var) (wanted_on ps)
    where
      by_case : (b : Bool) → list_all (λ p. not (eqb p.var var) || eqb p.val val) ps ≡ list_all (λ p. eqb p.val val) (on var ps) → ((not b || eqb p.val val) && list_all (λ p. not (eqb p.var var) || eqb p.val val) ps) ≡ list_all (λ p. eqb p.val val) (cond b (p ∷ on var ps) (on var ps))
      by_case true later = ap (λ c. eqb p.val val && c) later
      by_case false later = later

  barred_on : (ps : List Pair) → list_all (λ p. not (eqb p.var var && eqb p.val val)) ps ≡ list_all (λ p. not (eqb p.val val)) (on var ps)
  barred_on [] = refl
  barred_on (p ∷ ps) = by_case (eqb p.var var) (barred_on ps)
    where
      by_case : (b : Bool) → list_all (λ p. not (eqb p.var var && eqb p.val val)) ps ≡ list_all (λ p. not (eqb p.val val)) (on var ps) → (not (b && eqb p.val val) && list_all (λ p. not (eqb p.var var && eqb p.val val)) ps) ≡ list_all (λ p. not (eqb p.val val)) (cond b (p ∷ on var ps) (on var ps))
      by_case true later = ap (λ c. not (eqb p.val val) && c) later
      by_case false later = later

module _ (cover : Cover) (literals : Cond ℕ) (wanted barred : List Pair) (wants : IsPermutation (flat_map (places cover) literals.positive) wanted) (bars : IsPermutation (filter_map (first_place cover) literals.negative) barred) where
  left_is : (var val : ℕ) → is_left cover literals var val ≡ leaves (on var wanted) (on var barred) val
  left_is var val =
      let positive = sym (all_flat_map (λ p. not (eqb p.var var) || eqb p.val val) (places cover) literals.positive) ∙ all_permutation (λ p. not (eqb p.var var) || eqb p.val val) (flat_map (places cover) literals.positive) wanted wants ∙ wanted_on var val wanted in
      let negative = sym (all_filter_map (λ p. not (eqb p.var var && eqb p.val val)) (first_place cover) literals.negative) ∙ all_permutation (λ p. not (eqb p.var var && eqb p.val val)) (filter_map (first_place cover) literals.negative) barred bars ∙ barred_on var val barred in
      ap (λ b. b && list_all (λ f. option_map_or (λ p. not (eqb p.var var && eqb p.val val)) (first_place cover f) true) literals.negative) positive
      ∙ ap (λ b. list_all (λ p. eqb p.val val) (on var wanted) && b) negative

  -- the values that the marks leave are those that the literals do
  pub values_are : (var : ℕ) → values_marked cover wanted barred var ≡ values_left cover literals var
  values_are var = ap (λ (test : ℕ → Bool). filter test (range_with_len 0 (last_value cover var + 1))) (λ i val. sym (left_is var val) i)

  -- a variable is looked at where it has a mark
  pub looked_at_is : (var : ℕ) → is_looked_at cover literals var ≡ (list_any (λ p. eqb p.var var) wanted || list_any (λ p. eqb p.var var) barred)
  looked_at_is var =
      let positive = sym (any_flat_map (places cover) (λ p. eqb p.var var) literals.positive) ∙ list_any-IsPermutation (λ p. eqb p.var var) (flat_map (places cover) literals.positive) wanted wants in
      let negative = sym (any_filter_map (λ p. eqb p.var var) (first_place cover) literals.negative) ∙ list_any-IsPermutation (λ p. eqb p.var var) (filter_map (first_place cover) literals.negative) barred bars in
      ap (λ b. b || list_any (λ f. option_map_or (λ p. eqb p.var var) (first_place cover f) false) literals.negative) positive
      ∙ ap (λ b. list_any (λ p. eqb p.var var) wanted || b) negative

  place_fits : (f : ℕ) (p : Pair) → Contains (places cover f) p → p.val < last_value cover p.var + 1
  place_fits f p in' =
      let at = place_is cover f p in' in
      let low = subst (λ k. k < last_value cover p.var) at.value (place_below (set_of cover p.var) f at.member) in
      omega arith

  -- the marks are on values of their variables
  pub wanted_fit : All (λ p. p.val < last_value cover p.var + 1) wanted
  wanted_fit =
      All-permutation (λ p. p.val < last_value cover p.var + 1) (flat_map (places cover) literals.positive) wanted wants
      (all_from_members (λ p. p.val < last_value cover p.var + 1) (flat_map (places cover) literals.positive) (λ p in'. let f = flat_map_member (places cover) literals.positive p in' in place_fits f.0 p f.2))

  pub barred_fit : All (λ p. p.val < last_value cover p.var + 1) barred
  barred_fit =
      All-permutation (λ p. p.val < last_value cover p.var + 1) (filter_map (first_place cover) literals.negative) barred bars
      (all_from_members (λ p. p.val < last_value cover p.var + 1) (filter_map (first_place cover) literals.negative) (λ p in'. let f = filter_map_member (first_place cover) literals.negative p in' in place_fits f.0 p (first_listed cover f.0 p f.2)))

-- the marks on a variable are on values of it
pub on_fit : (cover : Cover) (var : ℕ) (marks : List Pair) → All (λ p. p.val < last_value cover p.var + 1) marks → All (λ p. p.val < last_value cover var + 1) (on var marks)
on_fit cover var marks fit =
    all_from_members (λ p. p.val < last_value cover var + 1) (on var marks) (λ p in'.
    let at = filter_member (λ p. eqb p.var var) marks p in' in
    subst (λ v. p.val < last_value cover v + 1) (eqb-true p.var var at.1) (All-contains (λ p. p.val < last_value cover p.var + 1) marks p fit at.0))

-- a list sorted without repeats has the same numbers
pub any_dedup : (var : ℕ) (xs : List ℕ) → list_any (λ v. eqb v var) (dedup eqb xs) ≡ list_any (λ v. eqb v var) xs
any_dedup var xs =
    same_tests (list_any (λ v. eqb v var) (dedup eqb xs)) (list_any (λ v. eqb v var) xs)
    (λ h. let v = any_member (λ v. eqb v var) (dedup eqb xs) h in member_any (λ v. eqb v var) xs v.0 (Contains-from_dedup eqb xs v.0 v.1) v.2)
    (λ h. let v = any_member (λ v. eqb v var) xs h in member_any (λ v. eqb v var) (dedup eqb xs) v.0 (Contains-dedup_nat xs v.0 v.1) v.2)

-- ---- the values of one variable

-- a test that only one number passes
one_passes : (test : ℕ → Bool) (v n : ℕ) → v < n → ((k : ℕ) → test k ≡ true → k ≡ v) → filter test (range_with_len 0 n) ≡ cond (test v) (v ∷ []) []
one_passes test v n low only =
    elim (cases_Bool (test v)) [
      | inl yes' ↦
          same_in_order (filter test (range_with_len 0 n)) (v ∷ []) (IsStrictlyIncreasing-filter test (range_with_len 0 n) (range_increasing n)) (λ k none. absurd (omega arith))
          (λ k in'. subst (Contains (v ∷ [])) (sym (only k (filter_member test (range_with_len 0 n) k in').1)) (member_first v []))
          (λ k in'. subst (Contains (filter test (range_with_len 0 n))) (member_single v k in') (member_filter test (range_with_len 0 n) v (member_range n v low) yes'))
          ∙ sym (cond-true (test v) (v ∷ []) [] yes')
      | inr no' ↦
          filter_none test (range_with_len 0 n) (λ k in'. false_from_ne_true (test k) (λ h. both_ways (test v) no' (subst (λ j. test j ≡ true) (only k h) h)))
          ∙ sym (cond-false (test v) (v ∷ []) [] no')
    ]

-- where a value is wanted, it alone can be left
pub pool_wanted : (var values : ℕ) (p : Pair) (wanted barred : List Pair) → p.val < values → cond (leaves (p ∷ wanted) barred p.val) (pair var p.val ∷ []) [] ≡ pool var values (p ∷ wanted) barred
pool_wanted var values p wanted barred low =
    by_case (leaves (p ∷ wanted) barred p.val)
    ∙ ap (map (pair var)) (sym (one_passes (leaves (p ∷ wanted) barred) p.val values low (λ k h. sym (eqb-true p.val k (and_parts (eqb p.val k) _ (and_parts (list_all (λ q. eqb q.val k) (p ∷ wanted)) _ h).0).0))))
  where
    by_case : (b : Bool) → cond b (pair var p.val ∷ []) [] ≡ map (pair var) (cond b (p.val ∷ []) [])
    by_case true = refl
    by_case false = refl

-- the first wanted value
pub pool_first : (var values : ℕ) (p : Pair) (wanted barred : List Pair) → Some p ≡ slice_get wanted 0 → All (λ q. q.val < values) wanted → cond (leaves wanted barred p.val) (pair var p.val ∷ []) [] ≡ pool var values wanted barred
pool_first var values p [] barred none low = absurd cc
pool_first var values p (q ∷ wanted) barred is low =
    let same : q ≡ p = cc in
    subst (λ (r : Pair). cond (leaves (q ∷ wanted) barred r.val) (pair var r.val ∷ []) [] ≡ pool var values (q ∷ wanted) barred) same
    (pool_wanted var values q wanted barred (All-contains (λ r. r.val < values) (q ∷ wanted) q low (member_first q wanted)))

pub values_below : (values : ℕ) (ps : List Pair) → All (λ p. p.val < values) ps → All (λ v. v < values) (map (λ p. p.val) ps)
values_below values ps low =
    all_from_members (λ v. v < values) (map (λ p. p.val) ps) (λ v in'.
    let p = map_member (λ (p : Pair). p.val) ps v in' in
    subst (λ w. w < values) p.2 (All-contains (λ p. p.val < values) ps p.0 low p.1))

none_is : (val : ℕ) (ps : List Pair) → not (list_any (λ v. eqb v val) (map (λ p. p.val) ps)) ≡ list_all (λ p. not (eqb p.val val)) ps
none_is val [] = refl
none_is val (p ∷ ps) = by_case (eqb p.val val) (none_is val ps)
  where
    by_case : (b : Bool) → not (list_any (λ v. eqb v val) (map (λ p. p.val) ps)) ≡ list_all (λ p. not (eqb p.val val)) ps → not (b || list_any (λ v. eqb v val) (map (λ p. p.val) ps)) ≡ (not b && list_all (λ p. not (eqb p.val val)) ps)
    by_case true later = refl
    by_case false later = later

-- a value is left where no mark bars it
pub unbarred : (barred : List Pair) (flags : ℕ → Bool) → ((val : ℕ) → flags val ≡ list_any (λ v. eqb v val) (map (λ p. p.val) barred)) → (val : ℕ) → not (flags val) ≡ leaves [] barred val
unbarred barred flags same val = ap not (same val) ∙ none_is val barred
