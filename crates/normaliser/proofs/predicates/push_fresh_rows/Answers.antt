use Rattle.std.proofs.Common.{List, ◌++◌, ap, ◌∙◌, arith}
use Rattle.std.proofs.lemmas.List.{take_all}
use Rattle.normal_task.specs.declared.parts.Fresh.{Fresh}
use Rattle.normal_task.specs.Normalised.{fresh_predicates}
use Rattle.normaliser.proofs.WrittenNames.{fresh-more}
use Rattle.normaliser.proofs.predicates.push_fresh_rows.Goals as goal

pub loop-number-preserved : goal.loop-number-preserved
loop-number-preserved c = λ domain problem.
    fresh-more domain problem c.args.fresh.now c.loop-number.number c.index-fresh-number.result (omega arith) c.index-fresh-number.is
    c.args.rows.now.items c.loop-number.rows.items c.push.new.self.items (c.loop-number.invariant domain problem) (cc (c.in_ok-push.ensures.items, c.in_ok-fresh_row.ensures))

pub returns : goal.returns
returns c = λ domain problem.
    c.loop-number.invariant domain problem
    ∙ ap (λ (l : List Fresh). c.args.rows.now.items ++ fresh_predicates domain problem 0 l) (take_all c.loop-number.number c.args.fresh.now (omega arith))
