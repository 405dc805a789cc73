use Rattle.std.proofs.Common.{◌≡◌, [], take}
use Rattle.std.specs.List.{flat_map}
use Rattle.normal_task.specs.Meaning.{is_same_atom}
use Rattle.normal_task.specs.Normalised as spec
use Rattle.normaliser.proofs.initial.stated_atoms.Given as goal

abbrev pub invariant-loop-entry : goal.invariant-loop-entry
invariant-loop-entry l =
    l.atoms ≡ spec.once_after l.numbering.domain l.numbering.problem is_same_atom [] (flat_map (spec.stated l.numbering.domain l.numbering.problem) (take l.entry-index l.entries))
