use Rattle.std.proofs.Common.{◌≡◌, ◌+◌, ◌++◌, [], length, sym, ap, ◌∙◌}
use Rattle.std.specs.Option.{option_map_or}
use Rattle.pass_relevance.specs.Influences.{arcs_of_operator, arcs_at}
use Rattle.pass_relevance.proofs.Pieces.{one_more}
use Rattle.pass_relevance.proofs.influences.add_operators.Goals as goal

pub loop-i-preserved : goal.loop-i-preserved
loop-i-preserved c =
    let T = c.args.task.now in
    let i = c.loop-i.i in
    let o = c.operator.result.now in
    let node : c.in_ok-node.node ≡ length T.variables + i = c.in_ok-node.ensures ∙ ap (λ n. n + i) c.variables.ensures in
    let piece : arcs_of_operator c.in_ok-node.node o ≡ arcs_at T i =
    ap (λ n. arcs_of_operator n o) node ∙ sym (ap (λ found. option_map_or (arcs_of_operator (length T.variables + i)) found []) c.operator.ensures.value) in
    one_more (arcs_at T) c.args.arcs.now.items c.loop-i.arcs.items c.add_operator.new.arcs.items i c.loop-i.invariant (c.in_ok-add_operator.ensures ∙ ap (λ l. c.loop-i.arcs.items ++ l) piece)
