use Rattle.std.proofs.Common.{◌≡◌, ◌++◌, [], ◌∷◌, take}
use Rattle.std.specs.List.{flat_map}
use Rattle.sas_task.specs.Output.{bytes_of}
use Rattle.sas_writer.proofs.sections.push_facts.Given as goal

abbrev pub invariant-loop-fact : goal.invariant-loop-fact
invariant-loop-fact l = l.out.items ≡ l.initial.out.items ++ bytes_of (flat_map (λ fact. fact ∷ []) (take l.fact-index l.facts))
