use Rattle.std.proofs.Common.{◌≡◌, take}
use Rattle.std.specs.List.{flat_map}
use Rattle.fdr_effects.specs.Effects.{effects_at}
use Rattle.fdr_effects.proofs.effects.effects_of.Given as goal

abbrev pub invariant-loop-effect : goal.invariant-loop-effect
invariant-loop-effect l = l.all.items ≡ flat_map (effects_at l.index l.effects) (take l.effect-index l.effects)
