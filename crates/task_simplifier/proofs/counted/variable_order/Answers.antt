-- The variables with their tallies, in order.
use Rattle.std.proofs.Common.{map, length, get_or, ap, ◌∙◌}
use Rattle.std.specs.List.{range_with_len}
use Rattle.sas_task.specs.InOrder.{in_order}
use Rattle.task_simplifier.specs.declared.counted.Counted.{Counted}
use Rattle.task_simplifier.specs.Counted.{no_tally, counted_cmp, counted_by}
use Rattle.task_simplifier.proofs.Reorders.{order_is}
use Rattle.task_simplifier.proofs.counted.variable_order.Goals as goal

pub returns : goal.returns
returns c =
    c.in_ok-variables.ensures
    ∙ ap (map (λ (k : Counted). k.var))
    (c.as_slice-2.ensures.value ∙ c.in_ok-sorted.ensures
    ∙ ap (in_order counted_cmp)
    (c.in_ok-all.ensures
    ∙ ap (λ ts. map (counted_by (λ var. (get_or ts var no_tally).operators)) (range_with_len 0 c.variables.result)) c.as_slice.ensures.value
    ∙ ap (λ n. map (counted_by (λ var. (get_or c.in_ok-tallies.tallies.items var no_tally).operators)) (range_with_len 0 n)) c.variables.ensures))
    ∙ order_is c.args.task.now (length c.args.task.now.operators) c.in_ok-tallies.tallies.items c.in_ok-tallies.ensures
