use Rattle.std.proofs.Common.{◌≡◌}
use Rattle.std.specs.List.{flat_map}
use Rattle.fdr_encoder.specs.Operators.{operators_at}
use Rattle.fdr_encoder.proofs.operators.into_operators.Given as goal

abbrev pub invariant-loop-action : goal.invariant-loop-action
invariant-loop-action l = l.all.items ≡ flat_map (operators_at l.index) l.yielded
