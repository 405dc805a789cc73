use Rattle.std.proofs.Common.{◌≡◌, ◌++◌, [], ◌∷◌, take}
use Rattle.std.specs.List.{flat_map}
use Rattle.sas_task.specs.Output.{bytes_of, effect_line}
use Rattle.sas_writer.proofs.operators.push_effects.Given as goal

abbrev pub invariant-loop-effect : goal.invariant-loop-effect
invariant-loop-effect l =
    l.out.items ≡ l.initial.out.items ++ bytes_of (flat_map (λ e. effect_line l.operator e ∷ []) (take l.effect-index l.effects))
