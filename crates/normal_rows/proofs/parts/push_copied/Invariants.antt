use Rattle.std.proofs.Common.{◌≡◌, ◌++◌, take}
use Rattle.normal_rows.proofs.parts.push_copied.Given as goal

abbrev pub invariant-loop-literal : goal.invariant-loop-literal
invariant-loop-literal l = l.literals.items ≡ l.initial.literals.items ++ take l.literal-index l.more
