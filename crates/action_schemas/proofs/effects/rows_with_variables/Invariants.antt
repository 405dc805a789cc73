use Rattle.std.proofs.Common.{◌≡◌, ◌++◌, map}
use Rattle.action_schemas.proofs.effects.rows_with_variables.Given as goal

abbrev pub invariant-loop-row : goal.invariant-loop-row
invariant-loop-row l =
    l.longer.items ≡ map (λ row. record {
      variables = l.variables ++ row.variables;
      condition = row.condition;
      adds = row.adds;
      predicate = row.predicate;
      places = row.places;
    }) l.yielded
