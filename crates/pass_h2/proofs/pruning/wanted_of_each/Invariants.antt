use Rattle.std.proofs.Common.{◌≡◌, filter, map}
use Rattle.std.specs.List.{range_with_len}
use Rattle.sas_restriction.specs.Everything.{all_values}
use Rattle.pass_possible.specs.Pruned.{is_wanted}
use Rattle.pass_h2.specs.Finds.{found}
use Rattle.pass_h2.proofs.pruning.wanted_of_each.Given as goal

abbrev pub invariant-loop-var : goal.invariant-loop-var
invariant-loop-var l = l.values.items ≡ map (λ var. filter (is_wanted (found l.table) l.task var) (all_values l.task var)) (range_with_len 0 l.var)
