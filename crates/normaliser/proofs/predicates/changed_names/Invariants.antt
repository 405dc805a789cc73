use Rattle.std.proofs.Common.{take}
use Rattle.std.specs.List.{list_any}
use Rattle.fault_positions.specs.Arguments.{AreThose}
use Rattle.normaliser.specs.IsWritten.{is_written}
use Rattle.normaliser.proofs.predicates.changed_names.Given as goal

abbrev pub invariant-loop-action : goal.invariant-loop-action
invariant-loop-action l = AreThose (λ name. list_any (λ action. is_written action.effect name) (take l.action-index l.actions)) l.names
