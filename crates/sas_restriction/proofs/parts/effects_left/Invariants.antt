use Rattle.std.proofs.Common.{◌≡◌}
use Rattle.std.specs.List.{flat_map}
use Rattle.sas_restriction.proofs.Pieces.{kept_piece}
use Rattle.sas_restriction.specs.Listed.{chosen}
use Rattle.sas_restriction.specs.Choice.{effect_stays, new_effect}
use Rattle.sas_restriction.proofs.parts.effects_left.Given as goal

abbrev pub invariant-loop-effect : goal.invariant-loop-effect
invariant-loop-effect l = l.effects.items ≡ flat_map (kept_piece (effect_stays (chosen l.shown)) (new_effect (chosen l.shown))) l.yielded
