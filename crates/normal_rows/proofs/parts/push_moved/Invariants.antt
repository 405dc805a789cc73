use Rattle.std.proofs.Common.{◌≡◌, ◌++◌, map, take}
use Rattle.normal_task.specs.Parts as spec
use Rattle.normal_rows.proofs.parts.push_moved.Given as goal

abbrev pub invariant-loop-literal : goal.invariant-loop-literal
invariant-loop-literal l = l.literals.items ≡ l.initial.literals.items ++ map (spec.moved l.from l.by) (take l.literal-index l.more)
