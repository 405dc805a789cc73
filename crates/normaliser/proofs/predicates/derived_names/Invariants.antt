use Rattle.std.proofs.Common.{take}
use Rattle.std.specs.List.{list_any}
use Rattle.pddl_syntax.specs.Words.{is_same}
use Rattle.fault_positions.specs.Arguments.{AreThose}
use Rattle.normaliser.proofs.predicates.derived_names.Given as goal

abbrev pub invariant-loop-axiom : goal.invariant-loop-axiom
invariant-loop-axiom l = AreThose (λ name. list_any (λ rule. is_same rule.head.name.name name) (take l.axiom-index l.axioms)) l.names
