use Rattle.std.proofs.Common.{◌≡◌, ◌++◌, ◌∷◌, take}
use Rattle.std.specs.List.{flat_map}
use Rattle.sas_task.specs.Output.{pair_words}
use Rattle.sas_writer.proofs.lines.push_next_pairs.Given as goal

abbrev pub invariant-loop-pair : goal.invariant-loop-pair
invariant-loop-pair l =
    l.out.items ≡ l.initial.out.items ++ flat_map (λ word. 32 ∷ word) (flat_map pair_words (take l.pair-index l.pairs))
