use Rattle.std.proofs.Common.{◌≡◌, ℕ, ◌++◌, map, take}
use Rattle.ground_task.specs.declared.types.Cond.{Cond}
use Rattle.fdr_effects.specs.Effects.{both}
use Rattle.fdr_effects.specs.Standing.{alone, standing}
use Rattle.fdr_effects.proofs.choices.push_copies.Given as goal

abbrev pub invariant-loop-one : goal.invariant-loop-one
invariant-loop-one l = (cause : Cond ℕ) → standing l.index cause l.all.items ≡ standing l.index cause l.initial.all.items ++ standing l.index cause (map (λ one. both l.choice (alone one)) (take l.one-index l.ones))
