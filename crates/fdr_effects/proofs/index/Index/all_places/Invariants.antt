use Rattle.std.proofs.Common.{◌≡◌, take}
use Rattle.std.specs.List.{flat_map}
use Rattle.fdr_effects.specs.Places.{places}
use Rattle.fdr_effects.proofs.index.Index.all_places.Given as goal

abbrev pub invariant-loop-fact : goal.invariant-loop-fact
invariant-loop-fact l = l.all.items ≡ flat_map (places l.self) (take l.fact-index l.facts)
