use Rattle.std.proofs.Common.{◌≡◌, take}
use Rattle.std.specs.List.{flat_map}
use Rattle.sas_restriction.proofs.Pieces.{kept_piece}
use Rattle.sas_restriction.specs.Listed.{chosen}
use Rattle.sas_restriction.specs.Choice.{rule_stays, new_rule}
use Rattle.sas_restriction.proofs.parts.rules_left.Given as goal

abbrev pub invariant-loop-i : goal.invariant-loop-i
invariant-loop-i l = l.rules.items ≡ flat_map (kept_piece (rule_stays (chosen l.shown)) (new_rule (chosen l.shown))) (take l.i l.task.rules)
