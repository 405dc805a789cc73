use Rattle.std.proofs.Common.{◌≡◌, map}
use Rattle.std.specs.List.{range_with_len}
use Rattle.sas_restriction.specs.Everything.{all_values}
use Rattle.sas_restriction.proofs.all.values_of_each.Given as goal

abbrev pub invariant-loop-var : goal.invariant-loop-var
invariant-loop-var l = l.values.items ≡ map (all_values l.task) (range_with_len 0 l.var)
