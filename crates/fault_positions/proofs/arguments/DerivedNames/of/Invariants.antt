use Rattle.std.proofs.Common.{false, take}
use Rattle.fault_positions.specs.Arguments.{AreThose}
use Rattle.fault_positions.proofs.NameTests.{is_named}
use Rattle.fault_positions.proofs.arguments.DerivedNames.of.Given as goal

abbrev pub invariant-loop-axiom : goal.invariant-loop-axiom
invariant-loop-axiom l = AreThose (is_named (λ rule. rule.head.name.name) (λ _. false) (take l.axiom-index l.axiom-items)) l.names
