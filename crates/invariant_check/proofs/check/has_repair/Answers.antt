use Rattle.std.proofs.Common.{◌≡◌, suc, arith, Bool, true, false, not, ◌||◌, cond, List, [], ◌∷◌, map, filter, length, refl, sym, ap, ◌∙◌}
use Rattle.std.specs.Prelude.{nat_eq}
use Rattle.std.specs.List.{list_any}
use Rattle.std.proofs.lemmas.Bool.{ne_eqb}
use Rattle.lists.proofs.Items.{any_map}
use Rattle.normal_task.proofs.Anys.{any-same}
use Rattle.invariant_check.specs.Extensions.{with_part}
use Rattle.contradictions.proofs.Cases.{answers_too}
use Rattle.contradictions.specs.declared.types.Part.{Part}
use Rattle.invariant_check.specs.Repairs.{balances_add, repairs_at}
use Rattle.invariant_check.proofs.check.has_repair.Goals as goal

some_kept : {X : Type 0} (test : X → Bool) (xs : List X) → list_any test xs ≡ not (nat_eq (length (filter test xs)) 0)
some_kept test [] = refl
some_kept test (x ∷ xs) = by (test x) (some_kept test xs)
  where
    by : (b : Bool) → list_any test xs ≡ not (nat_eq (length (filter test xs)) 0) → (b || list_any test xs) ≡ not (nat_eq (length (cond b (x ∷ filter test xs) (filter test xs))) 0)
    by true rest = ap not (sym (ne_eqb (suc (length (filter test xs))) 0 (λ e. omega (arith, e))))
    by false rest = rest

pub returns : goal.returns
returns c =
    let task = c.args.normal.now in
    let candidate = c.args.candidate.now in
    let place = c.args.place.now in
    let near = c.in_ok-near.near in
    let parts = c.as_slice.result.now in
    answers_too c.some_repairs.result (list_any (λ (part : Part). balances_add task place (with_part task near part)) parts) (not (nat_eq (length (repairs_at task candidate place)) 0))
    (any-same (λ (part : Part). balances_add task place (with_part task near part)) (λ (part : Part). balances_add task place (with_part task candidate part)) c.in_ok-near.ensures parts
    ∙ sym (any_map (balances_add task place) (with_part task candidate) parts)
    ∙ some_kept (balances_add task place) (map (with_part task candidate) parts)
    ∙ ap (λ repairs. not (nat_eq (length repairs) 0)) (ap (λ (ps : List Part). filter (balances_add task place) (map (with_part task candidate) ps)) c.as_slice.ensures.value ∙ c.in_ok-parts.ensures))
    c.some_repairs.ensures
