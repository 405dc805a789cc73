use Rattle.std.proofs.Common.{◌≡◌, [], map, take}
use Rattle.std.specs.List.{flat_map}
use Rattle.normal_task.specs.Meaning.{is_same_value}
use Rattle.normal_task.specs.Keys.{value_key}
use Rattle.normal_task.specs.Normalised as spec
use Rattle.normaliser.proofs.initial.stated_values.Given as goal

abbrev pub invariant-loop-entry : goal.invariant-loop-entry
invariant-loop-entry l =
    (l.keys ≡ map value_key l.rows.items)
    × (l.rows.items ≡ spec.once_after l.numbering.domain l.numbering.problem is_same_value [] (flat_map (spec.value_row l.numbering.domain l.numbering.problem) (take l.entry-index l.entries)))
