-- The conditions that a table tells are those of each variable in turn.
use Rattle.std.proofs.Common.{◌≡◌, ℕ, zero, suc, ◌+◌, ◌<◌, ◌≤◌, true, false, cond, eqb, List, [], ◌∷◌, ◌++◌, Option, Some, None, inl, inr, refl, sym, ap, ◌∙◌, subst, arith}
use Rattle.std.specs.BTreeMap.{BTreeMap, is_at, IsOrdered}
use Rattle.std.specs.Cmp.{nat_cmp_is}
use Rattle.std.specs.List.{find, filter_map, cons_option, flat_map, range_with_len, AllByRecursion}
use Rattle.std.specs.List.Sorted.{IsStrictlySortedBy}
use Rattle.std.specs.Map.{keys_of, lookup}
use Rattle.std.specs.Ordering.{nat_cmp, is_eq}
use Rattle.std.specs.declared.cmp.Ordering.TheVariants.{Less, Equal, Greater}
use Rattle.std.specs.Option.{option_map, option_map_or}
use Rattle.std.proofs.lemmas.Bool.{cases_Bool, cases_eq}
use Rattle.std.proofs.lemmas.Cmp.{ranked}
use Rattle.sas_task.specs.declared.parts.Pair.{Pair}
use Rattle.sas_reader.specs.declared.requirements.Requirement.{Requirement}
use Rattle.sas_reader.specs.declared.requirements.Requirement.TheVariants.{Prevails, Changes}
use Rattle.sas_reader.specs.Operators.{Told, told_before, required_of, pair_if, required}
use Rattle.sas_reader.specs.Tables.{requirement, value_of, condition_if, AreRequired}

abbrev Entry : Type 0
Entry = ℕ × Requirement

at_same : (q : ℕ) → is_at (nat_cmp q) q ≡ true
at_same q = sym (ap is_eq (nat_cmp_is q q Equal refl))

at_below : (q k : ℕ) → q < k → is_at (nat_cmp q) k ≡ false
at_below q k below = sym (ap is_eq (nat_cmp_is q k Less below))

at_above : (q k : ℕ) → k < q → is_at (nat_cmp q) k ≡ false
at_above q k above = sym (ap is_eq (nat_cmp_is q k Greater above))

-- the value at a number
abbrev at : List Entry → ℕ → Option Requirement
at es q = lookup (is_at (nat_cmp q)) es

skipped : (e : Entry) (es : List Entry) (q : ℕ) → is_at (nat_cmp q) e.0 ≡ false → at (e ∷ es) q ≡ at es q
skipped e es q other = ap (λ b. cond b (Some e.1) (at es q)) other

-- all keys lie from a on and below b
abbrev Within : ℕ → ℕ → List Entry → Type 0
Within a b es = AllByRecursion (λ e. (a ≤ e.0) × (e.0 < b)) es

nothing_below : (es : List Entry) (q b : ℕ) → Within (q + 1) b es → at es q ≡ None
nothing_below [] q b within = refl
nothing_below (e ∷ es) q b within = skipped e es q (at_below q e.0 (omega (arith, within.0.0))) ∙ nothing_below es q b within.1

-- keys after one
later_within : (es : List Entry) (k a b : ℕ) → AllByRecursion (λ y. nat_cmp k y ≡ Less) (keys_of es) → Within a b es → Within (k + 1) b es
later_within [] k a b above within = tt
later_within (e ∷ es) k a b above within =
    let more : k < e.0 = ranked k e.0 Less (sym above.0) in
    ((omega (arith, more), within.0.1), later_within es k a b above.1 within.1)

narrower : (es : List Entry) (a b : ℕ) → Within a b es → (e : Entry) → AllByRecursion (λ y. nat_cmp e.0 y ≡ Less) (keys_of es) → a < e.0 → Within (a + 1) b es
narrower [] a b within e above more = tt
narrower (d ∷ es) a b within e above more =
    let after : e.0 < d.0 = ranked e.0 d.0 Less (sym above.0) in
    ((omega (arith, after, more), within.0.1), narrower es a b within.1 e above.1 more)

abbrev value_at : Option Requirement → Option ℕ
value_at None = None
value_at (Some r) = value_of r

abbrev condition_at : List Entry → ℕ → List Pair
condition_at es var = pair_if var (value_at (at es var))

abbrev conditions_of : List Entry → List Pair
conditions_of es = filter_map (λ (e : Entry). condition_if e.0 (value_of e.1)) es

same_over_range : (f g : ℕ → List Pair) (a n : ℕ) → ((v : ℕ) → a ≤ v → f v ≡ g v) → flat_map f (range_with_len a n) ≡ flat_map g (range_with_len a n)
same_over_range f g a zero same = refl
same_over_range f g a (suc n) same = λ i. same a (omega arith) i ++ same_over_range f g (a + 1) n (λ v from. same v (omega (arith, from))) i

first_condition : (var : ℕ) (val : Option ℕ) (more : List Pair) → cons_option (condition_if var val) more ≡ pair_if var val ++ more
first_condition var None more = refl
first_condition var (Some val) more = refl

walked : (n a : ℕ) (es : List Entry) → IsStrictlySortedBy nat_cmp (keys_of es) → Within a (a + n) es → conditions_of es ≡ flat_map (condition_at es) (range_with_len a n)
unfolding IsStrictlySortedBy
walked zero a [] sorted within = refl
walked zero a (e ∷ es) sorted within = absurd (omega (arith, within.0))
walked (suc n) a [] sorted within = walked n (a + 1) [] sorted tt
walked (suc n) a (e ∷ es) sorted within =
    elim (cases_eq e.0 a) [
      | inl is ↦
          let later : Within (e.0 + 1) (a + suc n) es = later_within es e.0 a (a + suc n) sorted.0 within.1 in
          let moved : Within (a + 1) (a + 1 + n) es = subst (λ b. Within (a + 1) b es) (let t : a + suc n ≡ a + 1 + n = omega arith in t) (subst (λ k. Within (k + 1) (a + suc n) es) is later) in
          let rest : conditions_of es ≡ flat_map (condition_at (e ∷ es)) (range_with_len (a + 1) n) = walked n (a + 1) es sorted.1 moved
          ∙ sym (same_over_range (condition_at (e ∷ es)) (condition_at es) (a + 1) n (λ v from. ap (λ o. pair_if v (value_at o)) (skipped e es v (at_above v e.0 (omega (arith, from, is)))))) in
          let here : at (e ∷ es) a ≡ Some e.1 = ap (λ b. cond b (Some e.1) (at es a)) (subst (λ k. is_at (nat_cmp a) k ≡ true) (sym is) (at_same a)) in
          first_condition e.0 (value_of e.1) (conditions_of es) ∙ (λ i. pair_if (is i) (value_of e.1) ++ rest i) ∙ ap (λ o. pair_if a (value_at o) ++ flat_map (condition_at (e ∷ es)) (range_with_len (a + 1) n)) (sym here)
      | inr other ↦
          let more : a < e.0 = omega (arith, within.0.0, other) in
          let none : at (e ∷ es) a ≡ None = nothing_below (e ∷ es) a (a + suc n) ((omega (arith, more), within.0.1), narrower es a (a + suc n) within.1 e sorted.0 more) in
          let moved : Within (a + 1) (a + 1 + n) (e ∷ es) = subst (λ b. Within (a + 1) b (e ∷ es)) (let t : a + suc n ≡ a + 1 + n = omega arith in t) ((omega (arith, more), within.0.1), narrower es a (a + suc n) within.1 e sorted.0 more) in
          walked n (a + 1) (e ∷ es) sorted moved ∙ ap (λ o. pair_if a (value_at o) ++ flat_map (condition_at (e ∷ es)) (range_with_len (a + 1) n)) (sym none)
    ]

-- each key is found, so each lies below a bound of what is found
bounded : (n : ℕ) (es : List Entry) → ((q : ℕ) (r : Requirement) → at es q ≡ Some r → q < n) → Within 0 n es
bounded n [] below = tt
bounded n (e ∷ es) below = (
  (omega arith, below e.0 e.1 (ap (λ b. cond b (Some e.1) (at es e.0)) (at_same e.0))),
  bounded n es (λ q r is. elim (cases_Bool (is_at (nat_cmp q) e.0)) [
    | inl first ↦ below q e.1 (ap (λ b. cond b (Some e.1) (at es q)) first)
    | inr other ↦ below q r (skipped e es q other ∙ is)
  ]),
)

value_is : (prevail : List Pair) (told : List Told) (var : ℕ) → value_at (requirement prevail told var) ≡ required_of prevail told var
value_is prevail told var = both (find (λ p. eqb p.var var) prevail) (told_before told var)
  where
    both : (p : Option Pair) (before : Option (Option ℕ)) → value_at (option_map_or (λ (p : Pair). Some (Prevails p.val)) p (option_map Changes before)) ≡ option_map_or (λ (p : Pair). Some p.val) p (option_map_or (λ required. required) before None)
    both (Some p) before = refl
    both None (Some before) = refl
    both None None = refl

pub conditions_are : (table : BTreeMap ℕ Requirement) (n : ℕ) (prevail : List Pair) (told : List Told) → IsOrdered nat_cmp table → AreRequired table prevail told → ((var : ℕ) (r : Requirement) → requirement prevail told var ≡ Some r → var < n)
    → filter_map (λ (e : Entry). condition_if e.0 (value_of e.1)) table.entries ≡ required n prevail told
conditions_are table n prevail told ordered are below =
    walked n 0 table.entries ordered (subst (λ b. Within 0 b table.entries) (let t : n ≡ 0 + n = omega arith in t) (bounded n table.entries (λ q r is. below q r (sym (are q) ∙ is))))
    ∙ same_over_range (condition_at table.entries) (λ var. pair_if var (required_of prevail told var)) 0 n (λ v from. ap (pair_if v) (ap value_at (are v) ∙ value_is prevail told v))
