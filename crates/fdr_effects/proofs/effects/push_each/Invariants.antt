use Rattle.std.proofs.Common.{◌≡◌, ◌++◌, map}
use Rattle.fdr_effects.proofs.effects.push_each.Given as goal

abbrev pub invariant-loop-conditions : goal.invariant-loop-conditions
invariant-loop-conditions l = l.out.items ≡ l.initial.out.items ++ map (λ m. record { conditions = m; var = l.var; after = l.val }) l.yielded
