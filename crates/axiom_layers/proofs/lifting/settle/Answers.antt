use Rattle.std.proofs.Common.{◌≡◌, length, subst, arith}
use Rattle.axiom_layers.specs.Arcs.{AreSound}
use Rattle.axiom_layers.proofs.Lifts.{low_sum, less_left}
use Rattle.axiom_layers.proofs.lifting.settle.Goals as goal

pub loop-smaller : goal.loop-smaller
loop-smaller c =
    let size : length c.args.layers.now ≡ length c.lift_all.new.layers = omega arith in
    let size' : length c.loop.layers ≡ length c.lift_all.new.layers = omega arith in
    less_left c.loop.layers c.lift_all.new.layers size' (low_sum c.args.arcs.now c.lift_all.new.layers (subst (λ n. AreSound n c.args.arcs.now) size c.requires.sound) c.lift_all.ensures.held)
    (c.lift_all.ensures.lifts c.loop-test.true)
