-- The ranges of an effect rise.
use Rattle.std.proofs.Common.{subst, sym}
use Rattle.normal_task.specs.declared.task.EffectRow.{EffectRow}
use Rattle.static_matcher.specs.Partial.{AreRising}
use Rattle.static_matcher.proofs.grounding.effects.Goals as goal

pub push_effects_of-requires : goal.push_effects_of-requires
push_effects_of-requires c = subst (λ (row : EffectRow). AreRising row.variables) (sym c.row-item.is) (c.requires c.loop-row.row-index c.row-item.result c.loop-row-test.true)
