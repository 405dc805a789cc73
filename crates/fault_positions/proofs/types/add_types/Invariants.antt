use Rattle.std.proofs.Common.{◌≡◌, ◌||◌, take}
use Rattle.std.specs.List.{list_any}
use Rattle.pddl_syntax.specs.Words.{Name, is_same}
use Rattle.fault_positions.proofs.types.add_types.Given as goal

abbrev pub invariant-loop-type_name : goal.invariant-loop-type_name
invariant-loop-type_name l = (name : Name) → list_any (is_same name) l.known ≡ (list_any (λ type. is_same type.name name) (take l.type_name-index l.types) || list_any (is_same name) l.initial.known)
