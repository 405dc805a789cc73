use Rattle.std.proofs.Common.{◌≡◌, List, Option, Ok, take}
use Rattle.std.specs.Fn.{FnReturnsAt}
use Rattle.std.specs.List.{flat_map}
use Rattle.pddl_lexer.specs.declared.position.At.{At}
use Rattle.fault_positions.specs.Positions.{earliest}
use Rattle.fault_positions.proofs.positions.try_first_of.Given as goal

abbrev pub invariant-loop-item : goal.invariant-loop-item
invariant-loop-item g l =
    (positions_of : g.row.T.Denot → List At) → ((item : g.row.T.Denot) (at : Option At) → FnReturnsAt g.F.Fn l.position_of item (Ok at) → at ≡ earliest (positions_of item)) →
    l.first ≡ earliest (flat_map positions_of (take l.item-index l.items))
