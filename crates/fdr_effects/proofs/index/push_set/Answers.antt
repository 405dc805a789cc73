-- One more place.
use Rattle.std.proofs.Common.{subst, take_all}
use Rattle.lists.specs.Rows.{Adds}
use Rattle.lists.proofs.RowSteps.{nothing}
use Rattle.fdr_effects.specs.Marks.{place_in}
use Rattle.fdr_effects.proofs.Indexed.{next_place}
use Rattle.fdr_effects.proofs.index.push_set.Goals as goal

pub loop-val-init : goal.loop-val-init
loop-val-init c = nothing c.args.rows.now

pub loop-val-preserved : goal.loop-val-preserved
loop-val-preserved c =
    next_place c.args.var c.args.set.now c.loop-val.val c.loop-val-test.true c.requires c.args.rows.now c.loop-val.rows c.push.new.self c.loop-val.invariant c.in_ok-push.ensures

pub returns : goal.returns
returns c =
    subst (λ set. Adds (place_in c.args.var set) c.args.rows.now c.loop-val.rows) (take_all c.loop-val.val c.args.set.now c.loop-val-test.false) c.loop-val.invariant
