use Rattle.std.proofs.Common.{◌≡◌, map, take}
use Rattle.std.specs.List.{flat_map}
use Rattle.fdr_effects.specs.Rivals.{seen, rivals_of}
use Rattle.fdr_effects.proofs.rivals.in_turn.Given as goal

abbrev pub invariant-loop-effect : goal.invariant-loop-effect
invariant-loop-effect l = map seen l.all.items ≡ flat_map (rivals_of l.index) (take l.effect-index l.effects)
