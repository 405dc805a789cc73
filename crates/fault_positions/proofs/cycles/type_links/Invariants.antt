use Rattle.std.proofs.Common.{◌≡◌, take}
use Rattle.std.specs.List.{flat_map}
use Rattle.fault_positions.specs.Links.{supertype_links}
use Rattle.fault_positions.proofs.cycles.type_links.Given as goal

abbrev pub invariant-loop-entry : goal.invariant-loop-entry
invariant-loop-entry l = l.links ≡ flat_map supertype_links (take l.entry-index l.types)
