use Rattle.std.proofs.Common.{◌≡◌, map, take}
use Rattle.normal_task.specs.Parts as spec
use Rattle.normal_rows.proofs.rows.moved_rows.Given as goal

abbrev pub invariant-loop-row : goal.invariant-loop-row
invariant-loop-row l =
    l.moved.items ≡ map (λ row. record {
      variables = row.variables;
      condition = map (spec.moved l.from l.by) row.condition;
      adds = row.adds;
      predicate = row.predicate;
      places = map (spec.moved_place l.from l.by) row.places;
    }) (take l.row-index l.rows)
