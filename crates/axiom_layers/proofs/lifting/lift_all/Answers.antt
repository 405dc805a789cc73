use Rattle.std.proofs.Common.{◌≡◌, ℕ, ◌<◌, ◌≤◌, true, false, nat_le, List, length, get_or, take, ◌+◌, sum, sym, ◌∙◌, subst, arith}
use Rattle.std.specs.List.{All, Contains}
use Rattle.std.proofs.lemmas.Bool.{true≢false}
use Rattle.std.proofs.lemmas.List.{take_all}
use Rattle.std.proofs.lemmas.List.Elements.{All-more}
use Rattle.lists.proofs.Items.{contains_among, among_at}
use Rattle.names.specs.declared.arcs.Arc.{Arc}
use Rattle.names.specs.Arcs.{arc_at}
use Rattle.axiom_layers.specs.Arcs.{IsAbove, AreHeld}
use Rattle.axiom_layers.proofs.Lifts.{fact_within, low_within, low_small, held_lifted, sum_lifted, lifted_stays, above_if}
use Rattle.axiom_layers.proofs.lifting.lift_all.Goals.{then-lift, else-lift}
use Rattle.axiom_layers.proofs.lifting.lift_all.Goals as goal

stands : (arcs : List Arc) (i : ℕ) → i < length arcs → Contains arcs (arc_at arcs i)
stands arcs i within = contains_among arcs (arc_at arcs i) (among_at arcs i (record { from = 0; to = 0 }) within)

pub lift-requires-clause-fact : goal.lift-requires-clause-fact
lift-requires-clause-fact c =
    fact_within (length c.args.layers.now) c.args.arcs.now c.loop-arc.layers (omega arith) c.requires.sound (arc_at c.args.arcs.now c.loop-arc.arc-index) (stands c.args.arcs.now c.loop-arc.arc-index c.loop-arc-test.true)

pub lift-requires-clause-low : goal.lift-requires-clause-low
lift-requires-clause-low c =
    low_within (length c.args.layers.now) c.args.arcs.now c.loop-arc.layers (omega arith) c.requires.sound (arc_at c.args.arcs.now c.loop-arc.arc-index) (stands c.args.arcs.now c.loop-arc.arc-index c.loop-arc-test.true)

pub lift-requires-clause-small : goal.lift-requires-clause-small
lift-requires-clause-small c =
    let small = low_small (length c.args.layers.now) c.args.arcs.now c.loop-arc.layers (omega arith) c.requires.sound (arc_at c.args.arcs.now c.loop-arc.arc-index) (stands c.args.arcs.now c.loop-arc.arc-index c.loop-arc-test.true) c.loop-arc.invariant.held in
    omega (arith, small, c.requires.short)

pub loop-arc-preserved : goal.loop-arc-preserved
loop-arc-preserved c =
    let arcs : List Arc = c.args.arcs.now in
    let layers : List ℕ = c.loop-arc.layers in
    let arc : Arc = arc_at arcs c.loop-arc.arc-index in
    let in' : Contains arcs arc = stands arcs c.loop-arc.arc-index c.loop-arc-test.true in
    let within : arc.to < length layers = fact_within (length c.args.layers.now) arcs layers (omega arith) c.requires.sound arc in' in
    let held : AreHeld arcs c.lift.new.layers = subst (AreHeld arcs) (sym c.lift.ensures.layers) (held_lifted arcs layers arc within in' c.loop-arc.invariant.held) in
    elim c.if-lift.branch [
      | then-lift w ↦
          let test : nat_le (get_or layers arc.to 0) (get_or layers arc.from 0) ≡ true = sym c.lift.ensures.lifts ∙ w.if-lift.true in
          let more : sum layers < sum c.lift.new.layers = subst (λ (l : List ℕ). sum layers < sum l) (sym c.lift.ensures.layers) (sum_lifted layers arc within test) in
          let before = c.loop-arc.invariant.no_less in
          record {
            held = held;
            no_less = omega (arith, more, before);
            lifts = λ lifted. omega (arith, more, before);
            stays = λ stays. absurd (true≢false (sym w.lifts-is ∙ stays));
          }
      | else-lift w ↦
          let test : nat_le (get_or layers arc.to 0) (get_or layers arc.from 0) ≡ false = sym c.lift.ensures.lifts ∙ w.if-lift.false in
          let same : c.lift.new.layers ≡ layers = c.lift.ensures.layers ∙ lifted_stays layers arc test in
          record {
            held = held;
            no_less = subst (λ (l : List ℕ). sum c.args.layers.now ≤ sum l) (sym same) c.loop-arc.invariant.no_less;
            lifts = λ lifted. subst (λ (l : List ℕ). sum c.args.layers.now < sum l) (sym same) (c.loop-arc.invariant.lifts (sym w.lifts-is ∙ lifted));
            stays = λ stays. subst (λ (l : List ℕ). All (IsAbove l) (take (c.loop-arc.arc-index + 1) arcs)) (sym same)
                (All-more (IsAbove layers) arcs c.loop-arc.arc-index (record { from = 0; to = 0 }) c.loop-arc-test.true (c.loop-arc.invariant.stays (sym w.lifts-is ∙ stays)) (above_if layers arc test));
          }
    ]

pub returns-clause-stays : goal.returns-clause-stays
returns-clause-stays c = λ stays.
    subst (All (IsAbove c.loop-arc.layers)) (take_all c.loop-arc.arc-index c.args.arcs.now (omega (arith, c.loop-arc-test.false))) (c.loop-arc.invariant.stays stays)
