use Rattle.std.proofs.Common.{◌∙◌, sym, subst, length, arith}
use Rattle.axiom_layers.specs.Arcs.{AreHeld}
use Rattle.axiom_layers.proofs.Lifts.{fact_within, low_within, low_small, held_lifted}
use Rattle.axiom_layers.proofs.lifting.lift_along.Goals.{in-Some, in_default}
use Rattle.axiom_layers.proofs.lifting.lift_along.Goals as goal

pub lift-requires-clause-fact : goal.lift-requires-clause-fact
lift-requires-clause-fact c =
    fact_within (length c.args.layers.now) c.args.arcs.now c.loop-place.layers (omega arith) c.requires.sound c.in-Some.arc.now (_, c.in-Some.ensures.lookup.3.0, sym c.in-Some.ensures.lookup.1)

pub lift-requires-clause-low : goal.lift-requires-clause-low
lift-requires-clause-low c =
    low_within (length c.args.layers.now) c.args.arcs.now c.loop-place.layers (omega arith) c.requires.sound c.in-Some.arc.now (_, c.in-Some.ensures.lookup.3.0, sym c.in-Some.ensures.lookup.1)

pub lift-requires-clause-small : goal.lift-requires-clause-small
lift-requires-clause-small c =
    let small = low_small (length c.args.layers.now) c.args.arcs.now c.loop-place.layers (omega arith) c.requires.sound c.in-Some.arc.now (_, c.in-Some.ensures.lookup.3.0, sym c.in-Some.ensures.lookup.1) c.loop-place.invariant in
    omega (arith, small, c.requires.short)

pub loop-place-preserved : goal.loop-place-preserved
loop-place-preserved c = elim c.match-get.branch [
  | in-Some w ↦
      let within = fact_within (length c.args.layers.now) c.args.arcs.now c.loop-place.layers (omega arith) c.requires.sound w.in-Some.arc.now (_, w.in-Some.ensures.lookup.3.0, sym w.in-Some.ensures.lookup.1) in
      subst (AreHeld c.args.arcs.now) (sym (w.layers-is ∙ w.lift.ensures.layers)) (held_lifted c.args.arcs.now c.loop-place.layers w.in-Some.arc.now within (_, w.in-Some.ensures.lookup.3.0, sym w.in-Some.ensures.lookup.1) c.loop-place.invariant)
  | in_default w ↦ subst (AreHeld c.args.arcs.now) (sym w.layers-is) c.loop-place.invariant
]
