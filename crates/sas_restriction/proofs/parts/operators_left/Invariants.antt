use Rattle.std.proofs.Common.{◌≡◌, Bool, length, map, take}
use Rattle.std.specs.List.{flat_map}
use Rattle.sas_restriction.proofs.Pieces.{kept_piece}
use Rattle.sas_task.specs.declared.parts.Operator.{Operator}
use Rattle.sas_restriction.specs.Listed.{with_operators}
use Rattle.sas_restriction.specs.Choice.{operator_stays}
use Rattle.sas_restriction.specs.Restriction.{new_operator}
use Rattle.sas_restriction.proofs.parts.operators_left.Given as goal

abbrev pub invariant-loop-operator : goal.invariant-loop-operator
invariant-loop-operator l =
    (l.i ≡ length l.yielded)
    × ((leaves : Operator → Bool) → l.marks ≡ map leaves l.fn.old.items →
    l.operators.items ≡ flat_map (kept_piece (operator_stays (with_operators l.shown leaves)) (new_operator l.once (with_operators l.shown leaves))) (take l.i l.fn.old.items))
