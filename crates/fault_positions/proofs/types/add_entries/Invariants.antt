use Rattle.std.proofs.Common.{◌≡◌, ◌||◌, take}
use Rattle.std.specs.List.{list_any}
use Rattle.pddl_syntax.specs.Words.{Name, is_same}
use Rattle.fault_positions.specs.Names.{names_type}
use Rattle.fault_positions.proofs.types.add_entries.Given as goal

abbrev pub invariant-loop-entry : goal.invariant-loop-entry
invariant-loop-entry l = (name : Name) → list_any (is_same name) l.known ≡ (list_any (names_type name) (take l.entry-index l.entries) || list_any (is_same name) l.initial.known)
