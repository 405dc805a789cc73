use Rattle.std.specs.List.{list_any}
use Rattle.std.proofs.Common.{take}
use Rattle.pddl_syntax.specs.Words.{is_same}
use Rattle.fault_positions.specs.Arguments.{AreThose}
use Rattle.fault_positions.proofs.NameTests.{is_named}
use Rattle.fault_positions.proofs.arguments.add_names.Given as goal

abbrev pub invariant-loop-typed : goal.invariant-loop-typed
invariant-loop-typed l = AreThose (is_named (λ typed. typed.name.name) (λ other. list_any (is_same other) l.initial.names) (take l.typed-index l.list)) l.names
