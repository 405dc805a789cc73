use Rattle.std.proofs.Common.{◌≡◌, take}
use Rattle.std.specs.List.{list_any}
use Rattle.pddl_syntax.specs.Words.{Name, is_same}
use Rattle.numbering.specs.Below.{has}
use Rattle.numbering.proofs.below.listed_names.Given as goal

abbrev pub invariant-loop-named : goal.invariant-loop-named
invariant-loop-named l = (name : Name) → has l.names name ≡ list_any (λ type. is_same name type.name) (take l.named-index l.listed)
