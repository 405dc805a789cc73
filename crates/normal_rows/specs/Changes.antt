-- Effects that add or delete one atom.
use Rattle.normal_rows.specs.declared.changes.Change.{Change}
use Rattle.normal_task.specs.declared.parts.Part.{Part}
use Rattle.normal_task.specs.declared.task.EffectRow.{EffectRow}

-- the change of an atom, for the part
abbrev pub changed_row : Change → Part → EffectRow
changed_row change part =
    record { variables = part.variables; condition = part.literals; adds = change.adds; predicate = change.predicate; places = change.places.now }
