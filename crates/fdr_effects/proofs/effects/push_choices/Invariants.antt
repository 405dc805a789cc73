use Rattle.std.proofs.Common.{◌≡◌, ◌++◌, take}
use Rattle.std.specs.List.{flat_map}
use Rattle.sas_task.specs.Pairs.{pair}
use Rattle.fdr_effects.specs.Places.{last_value}
use Rattle.fdr_effects.specs.Effects.{both, sets_where}
use Rattle.fdr_effects.proofs.effects.push_choices.Given as goal

abbrev pub invariant-loop-choice : goal.invariant-loop-choice
invariant-loop-choice l = l.out.items ≡ l.initial.out.items ++ flat_map (λ choice. sets_where l.index (pair l.var (last_value l.index l.var)) (both l.cause choice)) (take l.choice-index l.choice-items)
