use Rattle.std.proofs.Common.{◌≡◌, ◌++◌, map, take}
use Rattle.std.specs.List.{flat_map}
use Rattle.names.specs.Links.{link}
use Rattle.fault_positions.specs.Mentions.{asked_predicates}
use Rattle.fault_positions.specs.Seen.{all_seen}
use Rattle.fault_positions.proofs.recursion.add_asked.Given as goal

abbrev pub invariant-loop-mention : goal.invariant-loop-mention
invariant-loop-mention l = l.links ≡ l.initial.links ++ map (λ predicate. link l.from predicate.name) (flat_map asked_predicates (all_seen (take l.mention-index l.mentions)))
