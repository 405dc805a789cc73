use Rattle.std.proofs.Common.{◌≡◌, Bor, map, drop}
use Rattle.std.specs.Fn.{FnReturnsAt}
use Rattle.pddl_syntax.specs.declared.types.Named.{Named}
use Rattle.fault_positions.specs.Positions.{earlier, earliest}
use Rattle.fault_positions.specs.Names.{repeats_after}
use Rattle.fault_positions.proofs.repeats.first_repeat.Given as goal

abbrev pub invariant-loop-item : goal.invariant-loop-item
invariant-loop-item g l =
    (named : g.row.T.Denot → Named) → ((item : g.row.T.Denot) (name : Bor Named) → FnReturnsAt g.F.Fn l.name_of item name → name.now ≡ named item) →
    earlier l.first (earliest (repeats_after l.names (map named (drop l.item-index l.items)))) ≡ earliest (repeats_after l.initial.names (map named l.items))
