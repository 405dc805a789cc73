use Rattle.std.proofs.Common.{◌≡◌, ◌++◌, map, take}
use Rattle.names.specs.Links.{link}
use Rattle.fault_positions.proofs.cycles.add_links.Given as goal

abbrev pub invariant-loop-name : goal.invariant-loop-name
invariant-loop-name l = l.links ≡ l.initial.links ++ map (λ name. link l.from name.name) (take l.name-index l.names)
