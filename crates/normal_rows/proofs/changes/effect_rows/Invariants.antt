use Rattle.std.proofs.Common.{◌≡◌, map}
use Rattle.normal_rows.specs.Changes.{changed_row}
use Rattle.normal_rows.proofs.changes.effect_rows.Given as goal

abbrev pub invariant-loop-part : goal.invariant-loop-part
invariant-loop-part l = l.rows.items ≡ map (changed_row l.change) l.yielded
