use Rattle.std.proofs.Common.{below_more, sym, ◌∙◌}
use Rattle.names.proofs.components.are_joined.Goals as goal

pub loop-number-preserved : goal.loop-number-preserved
loop-number-preserved c = below_more _ _ c.loop-number.invariant (sym c.is_joined.ensures ∙ c.if-not-is_joined.false)
