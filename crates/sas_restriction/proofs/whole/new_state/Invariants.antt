use Rattle.std.proofs.Common.{◌≡◌, map, take, get_or}
use Rattle.sas_restriction.specs.Listed.{chosen}
use Rattle.sas_restriction.specs.Choice.{new_val}
use Rattle.sas_restriction.proofs.whole.new_state.Given as goal

abbrev pub invariant-loop-var : goal.invariant-loop-var
invariant-loop-var l = l.state.items ≡ map (λ var. new_val (chosen l.shown) var (get_or l.task.state var 0)) (take l.var-index l.shown.vars)
