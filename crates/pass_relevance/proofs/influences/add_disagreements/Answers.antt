use Rattle.pass_relevance.specs.Influences.{arcs_of_two}
use Rattle.pass_relevance.proofs.Pieces.{one_more}
use Rattle.pass_relevance.proofs.influences.add_disagreements.Goals as goal

pub loop-place-preserved : goal.loop-place-preserved
loop-place-preserved c = one_more (arcs_of_two c.args.node c.args.pairs.now) c.args.arcs.now.items c.loop-place.arcs.items c.add_two.new.arcs.items c.loop-place.place c.loop-place.invariant c.in_ok-add_two.ensures
