use Rattle.std.proofs.Common.{◌≡◌, take}
use Rattle.std.specs.List.{list_any}
use Rattle.pddl_syntax.specs.Words.{Name, is_same}
use Rattle.fault_positions.proofs.repeats.all_names.Given as goal

abbrev pub invariant-loop-typed : goal.invariant-loop-typed
invariant-loop-typed l = (name : Name) → list_any (is_same name) l.names ≡ list_any (λ typed. is_same name typed.name.name) (take l.typed-index l.list)
