-- The conditions of an operator, from its prevail conditions and what its effect lines tell.
use Rattle.std.proofs.Common.{◌≡◌, ◌≢◌, ℕ, zero, suc, ◌+◌, ◌<◌, ◌≤◌, Bool, true, false, cond, List, [], ◌∷◌, ◌++◌, map, get_or, Option, Some, None, inl, inr, refl, sym, ap, ◌∙◌, subst, arith}
use Rattle.std.specs.Prelude.{filter}
use Rattle.std.specs.List.{All, flat_map, range_with_len}
use Rattle.std.proofs.lemmas.Bool.{cases_eq}
use Rattle.std.proofs.lemmas.List.Elements.{All-nil, All-cons, All-head, All-tail, All-append, All-weaker}
use Rattle.sas_task.specs.declared.parts.Pair.{Pair}
use Rattle.sas_task.specs.Output.{value_in}
use Rattle.sas_task.proofs.RisingPairs.{Rise, here, passed_over, none_below, later_rise, later_above}
use Rattle.sas_reader.specs.Operators.{pair_if}

-- each variable in turn, with what f gives of it
abbrev pub in_turn : (ℕ → Option ℕ) → ℕ → ℕ → List Pair
in_turn f a n = flat_map (λ var. pair_if var (f var)) (range_with_len a n)

rise_first : (p : Pair) (ps : List Pair) → All (λ q. p.var < q.var) ps → Rise ps → Rise (p ∷ ps)
rise_first p [] above rises k within = absurd (omega (arith, within))
rise_first p (q ∷ ps) above rises zero within = All-head (λ (r : Pair). p.var < r.var) q ps above
rise_first p (q ∷ ps) above rises (suc k) within =
    let e : suc k + 1 ≡ suc (k + 1) = omega arith in
    subst (λ n. get_or (map (λ (r : Pair). r.var) (q ∷ ps)) k 0 < get_or (map (λ (r : Pair). r.var) (p ∷ q ∷ ps)) n 0) (sym e) (rises k (omega (arith, within)))

from_first : (f : ℕ → Option ℕ) (n a b : ℕ) → a ≤ b → All (λ p. a ≤ p.var) (in_turn f b n)
from_first f zero a b below = All-nil (λ (p : Pair). a ≤ p.var)
from_first f (suc n) a b below = All-append (λ (p : Pair). a ≤ p.var) (pair_if b (f b)) (in_turn f (b + 1) n) (one (f b)) (from_first f n a (b + 1) (omega (arith, below)))
  where
    one : (o : Option ℕ) → All (λ p. a ≤ p.var) (pair_if b o)
    one None = All-nil (λ (p : Pair). a ≤ p.var)
    one (Some val) = All-cons (λ (p : Pair). a ≤ p.var) (record { var = b; val = val }) [] below (All-nil (λ (p : Pair). a ≤ p.var))

above_first : (f : ℕ → Option ℕ) (n a : ℕ) → All (λ p. a < p.var) (in_turn f (a + 1) n)
above_first f n a = All-weaker (λ (p : Pair). a + 1 ≤ p.var) (λ p. a < p.var) (λ p from. omega (arith, from)) (in_turn f (a + 1) n) (from_first f n (a + 1) (a + 1) (omega arith))

with_first : (f : ℕ → Option ℕ) (n a : ℕ) (o : Option ℕ) → Rise (in_turn f (a + 1) n) → Rise (pair_if a o ++ in_turn f (a + 1) n)
with_first f n a None rises = rises
with_first f n a (Some val) rises = rise_first (record { var = a; val = val }) (in_turn f (a + 1) n) (above_first f n a) rises

pub in_turn_rises : (f : ℕ → Option ℕ) (n a : ℕ) → Rise (in_turn f a n)
in_turn_rises f zero a = λ k within. absurd (omega (arith, within))
in_turn_rises f (suc n) a = with_first f n a (f a) (in_turn_rises f n (a + 1))

pub in_turn_all : (P : Pair → Type 0) (f : ℕ → Option ℕ) (n a : ℕ) → ((var val : ℕ) → f var ≡ Some val → P (record { var = var; val = val })) → All P (in_turn f a n)
in_turn_all P f zero a each = All-nil P
in_turn_all P f (suc n) a each = All-append P (pair_if a (f a)) (in_turn f (a + 1) n) (one (f a) refl) (in_turn_all P f n (a + 1) each)
  where
    one : (o : Option ℕ) → f a ≡ o → All P (pair_if a o)
    one None is = All-nil P
    one (Some val) is = All-cons P (record { var = a; val = val }) [] (each a val is) (All-nil P)

-- what is found of a variable in turn
pub in_turn_value : (f : ℕ → Option ℕ) (n a var : ℕ) → a ≤ var → var < a + n → value_in (in_turn f a n) var ≡ f var
in_turn_value f zero a var from below = absurd (omega (arith, from, below))
in_turn_value f (suc n) a var from below =
    elim (cases_eq a var) [
      | inl is ↦ subst (λ v. value_in (in_turn f a (suc n)) v ≡ f v) is (at_first (f a))
      | inr other ↦ after_first (f a) other ∙ in_turn_value f n (a + 1) var (omega (arith, from, other)) (omega (arith, below))
    ]
  where
    at_first : (o : Option ℕ) → value_in (pair_if a o ++ in_turn f (a + 1) n) a ≡ o
    at_first None = none_below (in_turn f (a + 1) n) a (above_first f n a)
    at_first (Some val) = here (record { var = a; val = val }) (in_turn f (a + 1) n) a refl

    after_first : (o : Option ℕ) → a ≢ var → value_in (pair_if a o ++ in_turn f (a + 1) n) var ≡ value_in (in_turn f (a + 1) n) var
    after_first None other = refl
    after_first (Some val) other = passed_over (record { var = a; val = val }) (in_turn f (a + 1) n) var other

pub same_in_turn : (f g : ℕ → Option ℕ) (n a : ℕ) → ((v : ℕ) → a ≤ v → f v ≡ g v) → in_turn f a n ≡ in_turn g a n
same_in_turn f g zero a same = refl
same_in_turn f g (suc n) a same = λ i. pair_if a (same a (omega arith) i) ++ same_in_turn f g n (a + 1) (λ v from. same v (omega (arith, from))) i

nothing_in_turn : (f : ℕ → Option ℕ) (n a : ℕ) → ((v : ℕ) → f v ≡ None) → in_turn f a n ≡ []
nothing_in_turn f zero a none = refl
nothing_in_turn f (suc n) a none = ap (λ o. pair_if a o ++ in_turn f (a + 1) n) (none a) ∙ nothing_in_turn f n (a + 1) none

-- pairs that are sorted by variable are those of each variable in turn
pub pairs_in_turn : (n a : ℕ) (ps : List Pair) → Rise ps → All (λ p. a ≤ p.var) ps → All (λ p. p.var < a + n) ps → in_turn (value_in ps) a n ≡ ps
pairs_in_turn n a [] rises from below = nothing_in_turn (value_in []) n a (λ v. refl)
pairs_in_turn zero a (p ∷ ps) rises from below =
    absurd (omega (arith, All-head (λ (q : Pair). a ≤ q.var) p ps from, All-head (λ (q : Pair). q.var < a + 0) p ps below))
pairs_in_turn (suc n) a (p ∷ ps) rises from below =
    elim (cases_eq p.var a) [
      | inl is ↦
          let first : value_in (p ∷ ps) a ≡ Some p.val = here p ps a is in
          let above = later_above p ps rises in
          let ends : All (λ (q : Pair). q.var < a + 1 + n) ps = All-weaker (λ (q : Pair). q.var < a + suc n) (λ q. q.var < a + 1 + n) (λ q lt. omega (arith, lt)) ps (All-tail (λ (q : Pair). q.var < a + suc n) p ps below) in
          let later : in_turn (value_in ps) (a + 1) n ≡ ps = pairs_in_turn n (a + 1) ps (later_rise p ps rises) (All-weaker (λ (q : Pair). p.var < q.var) (λ q. a + 1 ≤ q.var) (λ q more. omega (arith, more, is)) ps above) ends in
          let rest : in_turn (value_in (p ∷ ps)) (a + 1) n ≡ ps = same_in_turn (value_in (p ∷ ps)) (value_in ps) n (a + 1) (λ v more. passed_over p ps v (λ e. absurd (omega (arith, more, e, is)))) ∙ later in
          (λ i. pair_if a (first i) ++ rest i) ∙ (λ i. record { var = sym is i; val = p.val } ∷ ps)
      | inr other ↦
          let low : a ≤ p.var = All-head (λ (q : Pair). a ≤ q.var) p ps from in
          let less : a < p.var = omega (arith, low, other) in
          let above : All (λ (q : Pair). a < q.var) (p ∷ ps) = All-cons (λ (q : Pair). a < q.var) p ps less (All-weaker (λ (q : Pair). p.var < q.var) (λ q. a < q.var) (λ q more. omega (arith, more, less)) ps (later_above p ps rises)) in
          let ends : All (λ (q : Pair). q.var < a + 1 + n) (p ∷ ps) = All-weaker (λ (q : Pair). q.var < a + suc n) (λ q. q.var < a + 1 + n) (λ q lt. omega (arith, lt)) (p ∷ ps) below in
          ap (λ o. pair_if a o ++ in_turn (value_in (p ∷ ps)) (a + 1) n) (none_below (p ∷ ps) a above)
          ∙ pairs_in_turn n (a + 1) (p ∷ ps) rises (All-weaker (λ (q : Pair). a < q.var) (λ q. a + 1 ≤ q.var) (λ q more. omega (arith, more)) (p ∷ ps) above) ends
    ]

-- the kept pairs of each variable in turn
pub filter_in_turn : (keep : ℕ → Bool) (f : ℕ → Option ℕ) (n a : ℕ) → filter (λ (p : Pair). keep p.var) (in_turn f a n) ≡ in_turn (λ v. cond (keep v) (f v) None) a n
filter_in_turn keep f zero a = refl
filter_in_turn keep f (suc n) a = one (f a) (keep a) refl ∙ ap (λ l. pair_if a (cond (keep a) (f a) None) ++ l) (filter_in_turn keep f n (a + 1))
  where
    one : (o : Option ℕ) (b : Bool) → keep a ≡ b → filter (λ (p : Pair). keep p.var) (pair_if a o ++ in_turn f (a + 1) n) ≡ pair_if a (cond b o None) ++ filter (λ (p : Pair). keep p.var) (in_turn f (a + 1) n)
    one None true is = refl
    one None false is = refl
    one (Some val) true is = ap (λ b. cond b (record { var = a; val = val } ∷ filter (λ (p : Pair). keep p.var) (in_turn f (a + 1) n)) (filter (λ (p : Pair). keep p.var) (in_turn f (a + 1) n))) is
    one (Some val) false is = ap (λ b. cond b (record { var = a; val = val } ∷ filter (λ (p : Pair). keep p.var) (in_turn f (a + 1) n)) (filter (λ (p : Pair). keep p.var) (in_turn f (a + 1) n))) is
