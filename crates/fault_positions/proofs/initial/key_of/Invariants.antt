use Rattle.std.proofs.Common.{◌≡◌, ◌∷◌, [], map, take}
use Rattle.pddl_syntax.specs.Holds.{object_of}
use Rattle.fault_positions.specs.AtomTables.{names_in}
use Rattle.fault_positions.proofs.initial.key_of.Given as goal

abbrev pub invariant-loop-term : goal.invariant-loop-term
invariant-loop-term l = names_in l.key ≡ l.fn.atom.predicate.name ∷ map (object_of []) (take l.term-index l.term-items)
