use Rattle.std.proofs.Common.{ℕ, ◌++◌, map, get_or, ap, ◌∙◌, sym}
use Rattle.std.proofs.lemmas.List.{get_or_default}
use Rattle.lists.proofs.LoopSteps.{flat_map_next}
use Rattle.invariant_check.specs.Extensions.{arity_of, countings, with_one}
use Rattle.invariant_check.proofs.extensions.one_predicate.Goals as goal

pub loop-predicate-preserved : goal.loop-predicate-preserved
loop-predicate-preserved c =
    let predicates = c.as_slice-predicate-items.result.now in
    let next = get_or predicates c.loop-predicate.predicate-index 0 in
    let listed = λ (predicate : ℕ). map (with_one predicate (arity_of c.args.normal.now predicate)) (countings (arity_of c.args.normal.now predicate)) in
    c.in_ok-push_candidates.ensures ∙ ap (λ l. l ++ listed next) c.loop-predicate.invariant ∙ sym (flat_map_next predicates c.loop-predicate.predicate-index next c.loop-predicate-test.true (get_or_default predicates c.loop-predicate.predicate-index 0 next c.loop-predicate-test.true) listed)
