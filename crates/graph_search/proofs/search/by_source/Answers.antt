use Rattle.std.proofs.Common.{[], replicate, sym, subst}
use Rattle.lists.specs.Rows.{Adds}
use Rattle.graph_search.specs.Search.{leads_to}
use Rattle.lists.proofs.RowSteps.{nothing, all, added_to_none}
use Rattle.graph_search.proofs.Searching.{targets}
use Rattle.graph_search.proofs.search.by_source.Goals as goal

pub loop-arc-init : goal.loop-arc-init
loop-arc-init c = subst (Adds (λ number. []) (replicate c.args.count [])) (sym c.in_ok-rows.ensures) (nothing (replicate c.args.count []))

pub returns : goal.returns
returns c =
    added_to_none c.args.count (leads_to c.args.arcs.now) c.loop-arc.rows
    (all targets c.args.arcs.now c.loop-arc.arc-index c.loop-arc-test.false (replicate c.args.count []) c.loop-arc.rows c.loop-arc.invariant)
