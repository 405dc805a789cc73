use Rattle.std.proofs.Common.{◌≡◌, take}
use Rattle.std.specs.List.{list_any}
use Rattle.names.specs.Names.{Name, is_same}
use Rattle.names.specs.Cycles.{links_of}
use Rattle.names.proofs.CycleNames.{turns}
use Rattle.names.proofs.cycles.on_cycles.Given as goal

abbrev pub invariant-loop-position : goal.invariant-loop-position
invariant-loop-position l = (name : Name) → list_any (is_same name) l.names ≡ list_any (turns (links_of l.pairs) name) (take l.position (links_of l.pairs))
