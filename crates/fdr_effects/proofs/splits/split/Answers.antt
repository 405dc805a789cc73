-- The combinations of what the marks leave to the variables that have some.
use Rattle.std.proofs.Common.{◌≡◌, ◌∷◌, [], true, ◌+◌, ◌<◌, ◌||◌, eqb, ℕ, List, map, length, sym, ap, ◌∙◌, subst}
use Rattle.std.specs.List.{All, filter, filter_map, flat_map, list_any, range_with_len, IsAllAdjacentAnswer}
use Rattle.std.specs.List.Sorted.{IsPermutation, IsNonDecreasingBy}
use Rattle.std.proofs.lemmas.Bool.{eqb-true}
use Rattle.std.proofs.lemmas.List.{nil_from_length}
use Rattle.std.proofs.lemmas.Result.{IfOk-weaker}
use Rattle.sas_task.specs.declared.parts.Pair.{Pair}
use Rattle.sas_task.specs.Pairs.{pair}
use Rattle.fdr_effects.specs.Places.{places, first_place, last_value}
use Rattle.fdr_effects.specs.Split.{values_left, is_looked_at}
use Rattle.fdr_effects.specs.Marks.{values_marked}
use Rattle.fdr_effects.proofs.ByVariable.{members_by_variable}
use Rattle.fdr_effects.proofs.Looked.{looked_are}
use Rattle.fdr_effects.proofs.Marked.{values_are, looked_at_is, wanted_fit, barred_fit}
use Rattle.std.specs.Prelude.{nat_lt}
use Rattle.fdr_effects.proofs.OneWay.{rising, one_way}
use Rattle.fdr_effects.proofs.splits.split.Goals as goal

pub pools-requires-clause-wanted_fit : goal.pools-requires-clause-wanted_fit
pools-requires-clause-wanted_fit c =
    let cover = c.args.index.now in
    let wanted = c.by_variable-wanted.result.items in
    let barred = c.by_variable-barred.result.items in
    let wants = subst (λ l. IsPermutation l wanted) (c.in_ok-all_places.ensures ∙ ap (flat_map (places cover)) c.as_slice.ensures) c.by_variable-wanted.ensures.same in
    let bars = subst (λ l. IsPermutation l barred) (c.in_ok-first_places.ensures ∙ ap (filter_map (first_place cover)) c.as_slice-3.ensures) c.by_variable-barred.ensures.same in
    subst (All (λ (p : Pair). p.val < last_value cover p.var + 1)) (sym c.as_slice-6.ensures.value) (wanted_fit cover c.args.literals.now wanted barred wants bars)

pub pools-requires-clause-barred_fit : goal.pools-requires-clause-barred_fit
pools-requires-clause-barred_fit c =
    let cover = c.args.index.now in
    let wanted = c.by_variable-wanted.result.items in
    let barred = c.by_variable-barred.result.items in
    let wants = subst (λ l. IsPermutation l wanted) (c.in_ok-all_places.ensures ∙ ap (flat_map (places cover)) c.as_slice.ensures) c.by_variable-wanted.ensures.same in
    let bars = subst (λ l. IsPermutation l barred) (c.in_ok-first_places.ensures ∙ ap (filter_map (first_place cover)) c.as_slice-3.ensures) c.by_variable-barred.ensures.same in
    subst (All (λ (p : Pair). p.val < last_value cover p.var + 1)) (sym c.as_slice-7.ensures.value) (barred_fit cover c.args.literals.now wanted barred wants bars)

pub returns-clause-split : goal.returns-clause-split
returns-clause-split c =
    let cover = c.args.index.now in
    let literals = c.args.literals.now in
    let wanted = c.by_variable-wanted.result.items in
    let barred = c.by_variable-barred.result.items in
    let vars = c.in_ok-vars.vars.items in
    let wants = subst (λ l. IsPermutation l wanted) (c.in_ok-all_places.ensures ∙ ap (flat_map (places cover)) c.as_slice.ensures) c.by_variable-wanted.ensures.same in
    let bars = subst (λ l. IsPermutation l barred) (c.in_ok-first_places.ensures ∙ ap (filter_map (first_place cover)) c.as_slice-3.ensures) c.by_variable-barred.ensures.same in
    let values = values_left cover literals in
    let of = λ (ws bs : List Pair) (vs : List ℕ). map (λ var. map (pair var) (values_marked cover ws bs var)) vs in
    let marked = λ (var : ℕ).
    c.in_ok-vars.ensures.marked var
    ∙ ap (λ (ws : List Pair). list_any (λ p. eqb p.var var) ws || list_any (λ p. eqb p.var var) c.as_slice-5.result.now) c.as_slice-4.ensures.value
    ∙ ap (λ (bs : List Pair). list_any (λ p. eqb p.var var) wanted || list_any (λ p. eqb p.var var) bs) c.as_slice-5.ensures.value
    ∙ sym (looked_at_is cover literals wanted barred wants bars var) in
    c.combinations.ensures values (filter (is_looked_at cover literals) (range_with_len 0 (length cover))) (
    c.in_ok-pools.ensures
    ∙ ap (λ ws. of ws c.as_slice-7.result.now c.as_slice-8.result.now) c.as_slice-6.ensures.value
    ∙ ap (λ bs. of wanted bs c.as_slice-8.result.now) c.as_slice-7.ensures.value
    ∙ ap (λ vs. of wanted barred vs) c.as_slice-8.ensures.value
    ∙ ap (λ (f : ℕ → List ℕ). map (λ var. map (pair var) (f var)) vars) (λ i var. values_are cover literals wanted barred wants bars var i)
    ∙ ap (map (λ var. map (pair var) (values var))) (looked_are cover literals vars c.in_ok-vars.ensures.in_order marked))

pub returns-clause-by_variable : goal.returns-clause-by_variable
returns-clause-by_variable c =
    IfOk-weaker c.combinations.result _ (λ all. All (IsNonDecreasingBy (λ (p : Pair). p.var)) all.items) (λ all is.
    subst (All (IsNonDecreasingBy (λ (p : Pair). p.var))) (sym is) (members_by_variable c.args.index.now c.args.literals.now)) (returns-clause-split c)

pub returns-then-rise-clause-split : goal.returns-then-rise-clause-split
returns-then-rise-clause-split c =
    let cover = c.args.index.now in
    let literals = c.args.literals.now in
    let wanted = c.by_variable-wanted.result.items in
    let wants = subst (λ l. IsPermutation l wanted) (c.in_ok-all_places.ensures ∙ ap (flat_map (places cover)) c.as_slice.ensures) c.by_variable-wanted.ensures.same in
    let none = nil_from_length literals.negative (ap (λ (l : List ℕ). length l) (sym c.as_slice-2.ensures) ∙ eqb-true (length c.as_slice-2.result.now) 0 (sym c.is_empty.ensures ∙ c.if-is_empty.true)) in
    let adjacent = subst (λ (ps : List Pair). IsAllAdjacentAnswer (λ front back is_before. is_before ≡ nat_lt front.var back.var) ps true) c.as_slice-then-is_empty.ensures.value
    (subst (IsAllAdjacentAnswer (λ front back is_before. is_before ≡ nat_lt front.var back.var) c.as_slice-then-is_empty.result.now) c.if-rise.true c.rise.ensures) in
    c.in_ok-one.ensures.items ∙ ap (λ (one : List Pair). one ∷ []) c.from_vec.ensures ∙ sym (one_way cover literals wanted wants none (rising wanted adjacent))

pub returns-then-rise-clause-by_variable : goal.returns-then-rise-clause-by_variable
returns-then-rise-clause-by_variable c =
    subst (All (IsNonDecreasingBy (λ (p : Pair). p.var))) (sym (returns-then-rise-clause-split c)) (members_by_variable c.args.index.now c.args.literals.now)
