use Rattle.std.proofs.Common.{◌≡◌, ◌-◌, ◌&&◌, drop, map}
use Rattle.std.specs.List.{list_any}
use Rattle.names.specs.Names.{is_same}
use Rattle.names.specs.Links as spec
use Rattle.names.specs.Links.{link}
use Rattle.names.proofs.cycles.+leads.Given as goal

abbrev pub decreases-leads : goal.decreases-leads
decreases-leads l = l.steps

abbrev pub invariant-loop-pair : goal.invariant-loop-pair
invariant-loop-pair l =
    list_any (λ one. is_same one.from l.from && spec.leads (map (λ pair. link pair.from.now pair.to.now) l.pairs) (l.steps - 1) one.to l.to) (map (λ pair. link pair.from.now pair.to.now) (drop l.pair-index l.pairs))
    ≡ spec.leads (map (λ pair. link pair.from.now pair.to.now) l.pairs) l.steps l.from l.to
