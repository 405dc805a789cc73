-- Pairs whose variables rise, and the values that they give.
use Rattle.std.proofs.Common.{◌≡◌, ◌≢◌, ℕ, suc, ◌+◌, ◌<◌, cond, eqb, List, [], ◌∷◌, map, get_or, Some, None, refl, sym, ap, ◌∙◌, subst, arith}
use Rattle.std.specs.List.{All, find}
use Rattle.std.specs.List.Sorted.{IsStrictlyIncreasing}
use Rattle.std.specs.Option.{option_map}
use Rattle.std.proofs.lemmas.Bool.{eq-eqb, ne_eqb}
use Rattle.std.proofs.lemmas.List.Elements.{All-nil, All-cons, All-head, All-tail, All-weaker}
use Rattle.sas_task.specs.declared.parts.Pair.{Pair}
use Rattle.sas_task.specs.Output.{value_in}
use Rattle.sas_task.specs.Pairs.{pair}

abbrev pub Rise : List Pair → Type 0
Rise pairs = IsStrictlyIncreasing (map (λ p. p.var) pairs)

pub here : (p : Pair) (ps : List Pair) (var : ℕ) → p.var ≡ var → value_in (p ∷ ps) var ≡ Some p.val
here p ps var is = ap (λ b. option_map (λ (q : Pair). q.val) (cond b (Some p) (find (λ q. eqb q.var var) ps))) (eq-eqb p.var var is)

pub passed_over : (p : Pair) (ps : List Pair) (var : ℕ) → p.var ≢ var → value_in (p ∷ ps) var ≡ value_in ps var
passed_over p ps var other = ap (λ b. option_map (λ (q : Pair). q.val) (cond b (Some p) (find (λ q. eqb q.var var) ps))) (ne_eqb p.var var other)

pub none_below : (ps : List Pair) (var : ℕ) → All (λ p. var < p.var) ps → value_in ps var ≡ None
none_below [] var above = refl
none_below (p ∷ ps) var above =
    let first : var < p.var = All-head (λ (q : Pair). var < q.var) p ps above in
    passed_over p ps var (λ is. absurd (omega (arith, first, is))) ∙ none_below ps var (All-tail (λ (q : Pair). var < q.var) p ps above)

pub later_rise : (p : Pair) (ps : List Pair) → Rise (p ∷ ps) → Rise ps
later_rise p ps rises k within =
    let e : suc (k + 1) ≡ suc k + 1 = omega arith in
    subst (λ n. get_or (map (λ (q : Pair). q.var) ps) k 0 < get_or (map (λ (q : Pair). q.var) (p ∷ ps)) n 0) (sym e) (rises (suc k) (omega arith))

pub later_above : (p : Pair) (ps : List Pair) → Rise (p ∷ ps) → All (λ q. p.var < q.var) ps
later_above p [] rises = All-nil (λ (q : Pair). p.var < q.var)
later_above p (q ∷ ps) rises =
    let first : p.var < q.var = rises 0 (omega arith) in
    let rest = later_above q ps (later_rise p (q ∷ ps) rises) in
    All-cons (λ (r : Pair). p.var < r.var) q ps first (All-weaker (λ (r : Pair). q.var < r.var) (λ r. p.var < r.var) (λ r above. omega (arith, first, above)) ps rest)

-- pairs of one variable and one value are equal
pub pair_is : (p q : Pair) → p.var ≡ q.var → p.val ≡ q.val → p ≡ q
pair_is p q a b = let one : pair p.var p.val ≡ pair q.var q.val = ap (λ a. pair a p.val) a ∙ ap (pair q.var) b in one
