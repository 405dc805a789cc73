use Rattle.std.proofs.Common.{◌≡◌, map}
use Rattle.action_schemas.specs.SchemaRows.{shared_schema}
use Rattle.action_schemas.proofs.schemas.schemas_with.Given as goal

abbrev pub invariant-loop-part : goal.invariant-loop-part
invariant-loop-part l = l.schemas.items ≡ map (shared_schema l.numbering.domain l.numbering.problem l.shared) l.yielded
