-- The counted variables in order are the variables in order.
use Rattle.std.proofs.Common.{◌≡◌, ℕ, Bool, true, List, map, length, get_or, refl, ap, ◌∙◌}
use Rattle.std.specs.List.{range_with_len}
use Rattle.lists.proofs.Items.{contains_among, same_map, map_back}
use Rattle.sas_task.specs.declared.parts.Operator.{Operator}
use Rattle.sas_task.specs.Task.{Task}
use Rattle.sas_task.specs.InOrder.{in_order}
use Rattle.sas_restriction.specs.Reordered.{changing_operators, variable_cmp, variable_order}
use Rattle.lists.proofs.Members.{range_member}
use Rattle.sas_restriction.specs.Listed.{Listed, with_operators}
use Rattle.sas_restriction.specs.Everything.{everything_of, everything}
use Rattle.sas_restriction.proofs.AllValues.{chosen_is}
use Rattle.task_simplifier.specs.declared.tallies.Tally.{Tally}
use Rattle.task_simplifier.specs.declared.counted.Counted.{Counted}
use Rattle.task_simplifier.specs.Tallies.{AreTallies}
use Rattle.task_simplifier.specs.Counted.{no_tally, counted_cmp, counted_by}
use Rattle.task_simplifier.proofs.CountedOrder.{order_mapped}

abbrev counted_of : ℕ → ℕ → Counted
counted_of n v = record { operators = n; var = v }

pub order_is : (task : Task) (turn : ℕ) (tallies : List Tally) → AreTallies task turn task.operators tallies →
    map (λ (c : Counted). c.var) (in_order counted_cmp (map (counted_by (λ var. (get_or tallies var no_tally).operators)) (range_with_len 0 (length task.variables)))) ≡ variable_order task
order_is task turn tallies are =
    ap (λ cs. map (λ (c : Counted). c.var) (in_order counted_cmp cs)) (same_map (counted_by (λ var. (get_or tallies var no_tally).operators)) (counted_by (changing_operators task.operators)) (range_with_len 0 (length task.variables)) (λ v in'.
    ap (λ n. counted_of n v) (are.operators_at v no_tally (range_member (length task.variables) v (contains_among (range_with_len 0 (length task.variables)) v in')))))
    ∙ ap (map (λ (c : Counted). c.var)) (order_mapped (counted_by (changing_operators task.operators)) (variable_cmp task) counted_cmp (λ a b. refl) (range_with_len 0 (length task.variables)))
    ∙ map_back (counted_by (changing_operators task.operators)) (λ (c : Counted). c.var) (λ v. refl) (variable_order task)

-- what the code holds of the choice
abbrev pub all_leave : Operator → Bool
all_leave o = true

pub shown_is : (T : Task) (vars : List ℕ) (shown : Listed) → vars ≡ variable_order T → shown ≡ everything_of T vars → with_operators shown all_leave ≡ everything T (variable_order T)
shown_is T vars shown vars-are is = ap (λ l. with_operators l all_leave) (is ∙ ap (everything_of T) vars-are) ∙ chosen_is T (variable_order T)
