use Rattle.std.proofs.Common.{◌≡◌, ◌++◌, cond, take, List}
use Rattle.std.specs.List.{flat_map}
use Rattle.reached_task.specs.declared.types.ReachedEffect.{ReachedEffect}
use Rattle.fdr_effects.specs.Effects.{sets_where, deletes_in}
use Rattle.fdr_effects.specs.Rivals.{AreRivals}
use Rattle.fdr_effects.proofs.effects.push_effect.Given as goal

abbrev pub invariant-loop-place : goal.invariant-loop-place
invariant-loop-place l =
    (effects : List ReachedEffect) → AreRivals l.index effects l.rivals →
    l.out.items ≡ l.initial.out.items ++ flat_map (λ p. cond l.effect.adds (sets_where l.index p l.effect.condition) (deletes_in l.index effects l.effect p.var)) (take l.place-index l.place-items)
