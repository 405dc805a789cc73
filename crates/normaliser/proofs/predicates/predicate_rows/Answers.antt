use Rattle.std.proofs.Common.{◌∙◌}
use Rattle.normal_task.specs.Normalised as spec
use Rattle.normaliser.proofs.WrittenNames.{rows-are}
use Rattle.normaliser.proofs.predicates.predicate_rows.Goals as goal

pub returns : goal.returns
returns c = λ problem.
    c.from_vec.ensures
    ∙ c.in_ok-push_fresh_rows.ensures c.args.domain.now problem
    ∙ rows-are c.args.domain.now problem c.as_slice.result.now c.as_slice-2.result.now c.as_slice-3.result.now c.as_slice.ensures c.as_slice-2.ensures c.as_slice-3.ensures
    c.in_ok-derived.derived c.in_ok-changed.changed c.in_ok-derived.ensures c.in_ok-changed.ensures c.in_ok-rows.rows.items c.in_ok-rows.ensures (spec.fresh_predicates c.args.domain.now problem 0 c.args.fresh.now)
