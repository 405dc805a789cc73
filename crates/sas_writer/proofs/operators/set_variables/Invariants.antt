use Rattle.std.proofs.Common.{◌≡◌, map, take}
use Rattle.sas_writer.proofs.operators.set_variables.Given as goal

abbrev pub invariant-loop-effect : goal.invariant-loop-effect
invariant-loop-effect l = l.variables.items ≡ map (λ e. e.var) (take l.effect-index l.effects)
