-- One arc more.
use Rattle.std.proofs.Common.{◌≡◌, [], length, replicate, sym, subst, ◌∙◌, arith}
use Rattle.std.proofs.lemmas.List.{length-replicate}
use Rattle.std.proofs.lemmas.List.FromFn.{fill_by_all}
use Rattle.lists.specs.Rows.{Adds}
use Rattle.lists.proofs.RowSteps.{nothing, added_to_none}
use Rattle.names.specs.Arcs.{positions_from}
use Rattle.names.proofs.ArcRows.{one_arc_more}
use Rattle.names.proofs.arcs.ArcsBySource.new.Goals as goal

pub loop-position-init : goal.loop-position-init
loop-position-init c = subst (Adds (positions_from c.args.arcs.now 0) (replicate c.args.count [])) (sym c.in_ok-rows.ensures) (nothing (replicate c.args.count []))

pub loop-position-preserved : goal.loop-position-preserved
loop-position-preserved c = one_arc_more c.args.arcs.now c.loop-position.position (replicate c.args.count []) c.loop-position.rows c.push.new.self c.loop-position.invariant c.in_ok-push.ensures

pub returns : goal.returns
returns c =
    let all : c.loop-position.position ≡ length c.args.arcs.now = omega (arith, c.loop-position-test.false, c.loop-position.auto.position-end) in
    let from = positions_from c.args.arcs.now (length c.args.arcs.now) in
    let adds : Adds from (replicate c.args.count []) c.loop-position.rows =
    subst (λ n. Adds (positions_from c.args.arcs.now n) (replicate c.args.count []) c.loop-position.rows) all c.loop-position.invariant in
    fill_by_all from c.loop-position.rows c.args.count [] (adds.count ∙ length-replicate c.args.count []) (added_to_none c.args.count from c.loop-position.rows adds)
