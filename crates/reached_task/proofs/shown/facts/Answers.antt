use Rattle.std.proofs.Common.{◌∙◌, arith}
use Rattle.reached_task.specs.Reachable.{fact_of}
use Rattle.reached_task.proofs.KeyedAtoms.{made_of_keys}
use Rattle.reached_task.proofs.shown.facts.Goals as goal

pub returns : goal.returns
returns c =
    c.from_vec.ensures ∙ c.loop-predicate.invariant
    ∙ made_of_keys (fact_of c.args.task.now) c.as_slice-predicate-items.result.now c.args.atoms.now c.as_slice-predicate-items.ensures c.loop-predicate.predicate-index (omega (arith, c.loop-predicate-test.false))
