use Rattle.std.proofs.Common.{◌≡◌, take}
use Rattle.std.specs.List.{flat_map}
use Rattle.fault_positions.specs.Links.{dependence_links}
use Rattle.fault_positions.proofs.recursion.axiom_links.Given as goal

abbrev pub invariant-loop-rule : goal.invariant-loop-rule
invariant-loop-rule l = l.links ≡ flat_map dependence_links (take l.rule-index l.axioms)
