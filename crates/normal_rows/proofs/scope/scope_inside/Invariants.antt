use Rattle.std.proofs.Common.{◌≡◌, ◌+◌, drop}
use Rattle.normal_task.specs.Parts as spec
use Rattle.normal_rows.proofs.scope.scope_inside.Given as goal

abbrev pub invariant-loop-index : goal.invariant-loop-index
invariant-loop-index l =
    spec.scope_inside l.numbering.domain l.numbering.problem (drop l.index l.variables) (l.place + l.index) l.scope
    ≡ spec.scope_inside l.numbering.domain l.numbering.problem l.variables l.place l.outer
