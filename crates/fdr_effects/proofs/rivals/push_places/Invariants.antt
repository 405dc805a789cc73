use Rattle.std.proofs.Common.{◌≡◌, ◌++◌, map, take}
use Rattle.fdr_effects.specs.Rivals.{seen}
use Rattle.fdr_effects.proofs.rivals.push_places.Given as goal

abbrev pub invariant-loop-place : goal.invariant-loop-place
invariant-loop-place l = map seen l.out.items ≡ map seen l.initial.out.items ++ map (λ p. (p.var, l.condition)) (take l.place-index l.places)
