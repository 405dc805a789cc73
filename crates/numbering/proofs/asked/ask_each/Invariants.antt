use Rattle.std.proofs.Common.{◌≡◌, ◌++◌, map, take}
use Rattle.numbering.proofs.asked.ask_each.Given as goal

abbrev pub invariant-loop-variable : goal.invariant-loop-variable
invariant-loop-variable l = map (λ listed. listed.now) l.asked.items ≡ map (λ listed. listed.now) l.initial.asked.items ++ map (λ variable. variable.types) (take l.variable-index l.variables)
