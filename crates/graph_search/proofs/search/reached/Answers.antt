-- The queue: what is found is taken number by number, and where no number is left, what is found is what is reached.
use Rattle.std.proofs.Common.{sym, ◌∙◌, subst, arith}
use Rattle.graph_search.specs.Reached.{AreReached}
use Rattle.graph_search.proofs.Searching.{begin, turn, place_low, number_low, are_reached}
use Rattle.graph_search.proofs.search.reached.Goals as goal

pub loop-number-init : goal.loop-number-init
loop-number-init c = begin c.args.count c.args.starts.now c.args.arcs.now c.in_ok-found.found c.in_ok-found.ensures

pub overflow_add-place : goal.overflow_add-place
overflow_add-place c =
    let low = place_low c.args.count c.args.starts.now c.args.arcs.now c.loop-number.place c.loop-number.found c.loop-number.invariant c.in-Some.number (sym c.in-Some.ensures) in
    omega (arith, low)

pub loop-number-preserved : goal.loop-number-preserved
loop-number-preserved c =
    let at = sym c.in-Some.ensures in
    let low = number_low c.args.count c.args.starts.now c.args.arcs.now c.loop-number.place c.loop-number.found c.loop-number.invariant c.in-Some.number at in
    turn c.args.count c.args.starts.now c.args.arcs.now c.loop-number.place c.loop-number.found c.add_all.new.self c.in-Some.number c.row.result.now c.loop-number.invariant at
    (c.row.ensures ∙ c.in_ok-rows.ensures c.in-Some.number low) c.in_ok-add_all.ensures

pub loop-number-smaller : goal.loop-number-smaller
loop-number-smaller c =
    let low = place_low c.args.count c.args.starts.now c.args.arcs.now c.loop-number.place c.loop-number.found c.loop-number.invariant c.in-Some.number (sym c.in-Some.ensures) in
    omega (arith, low)

pub returns : goal.returns
returns c =
    subst (AreReached c.args.count c.args.starts.now c.args.arcs.now) (sym c.in_ok-numbers.ensures)
    (are_reached c.args.count c.args.starts.now c.args.arcs.now c.loop-number.place c.loop-number.found c.loop-number.invariant (sym c.in_default.ensures))
