-- The first places, in order and without repeats.
use Rattle.std.proofs.Common.{ap, ◌∙◌}
use Rattle.sas_task.specs.Orders.{pair_cmp}
use Rattle.sas_task.specs.InOrder.{sorted}
use Rattle.fdr_effects.proofs.Grouped.{grouped}
use Rattle.fdr_effects.proofs.groups.group.Goals as goal

pub returns : goal.returns
returns c =
    let facts = c.from_vec.ensures ∙ c.in_ok-in_order.ensures ∙ ap (sorted pair_cmp) c.in_ok-places.ensures ∙ grouped c.args.index.now c.args.facts.now c.requires in
    λ i. record { facts = facts i }
