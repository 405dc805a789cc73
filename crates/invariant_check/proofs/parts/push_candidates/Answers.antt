use Rattle.std.proofs.Common.{◌∷◌, ◌++◌, [], ap, ◌∙◌}
use Rattle.invariant_check.specs.Extensions.{with_one}
use Rattle.invariant_check.proofs.Countings.{one_more_counted}
use Rattle.invariant_check.proofs.parts.push_candidates.Goals as goal

pub loop-position-preserved : goal.loop-position-preserved
loop-position-preserved c =
    one_more_counted (with_one c.args.predicate c.arity_of-arity.result) c.args.candidates.now.items c.loop-position.candidates.items c.push-in-loop-position.new.self.items c.loop-position.position
    (c.in_ok-push-2.ensures.items ∙ ap (λ x. c.loop-position.candidates.items ++ x ∷ []) c.in_ok-with_one-2.ensures)
    c.loop-position.invariant
