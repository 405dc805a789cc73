use Rattle.invariant_check.specs.Extensions.{parts_counting}
use Rattle.invariant_check.proofs.Countings.{all_more_counted}
use Rattle.invariant_check.proofs.extensions.push_parts.Goals as goal

pub loop-position-preserved : goal.loop-position-preserved
loop-position-preserved c =
    all_more_counted (parts_counting c.args.predicate c.arity_of-arity.result c.args.parameters) c.args.parts.now.items c.loop-position.parts.items c.push_parts_counting-in-loop-position.new.parts.items c.loop-position.position
    c.in_ok-push_parts_counting-2.ensures c.loop-position.invariant
