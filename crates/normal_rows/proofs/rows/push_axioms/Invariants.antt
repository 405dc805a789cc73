use Rattle.std.proofs.Common.{◌≡◌, ◌++◌, map, take, length}
use Rattle.normal_rows.proofs.rows.push_axioms.Given as goal

abbrev pub invariant-loop-part : goal.invariant-loop-part
invariant-loop-part l =
    l.rows.items ≡ l.initial.rows.items ++ map (λ part. record {
      predicate = l.predicate;
      shown = length l.arguments;
      parameters = l.arguments ++ part.variables;
      condition = part.literals;
    }) (take l.part-index l.parts)
