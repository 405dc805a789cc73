use Rattle.std.proofs.Common.{◌≡◌, ◌++◌, take}
use Rattle.contradictions.specs.Renamings as spec
use Rattle.contradictions.proofs.renaming.push_renamed.Given as goal

abbrev pub invariant-loop-literal : goal.invariant-loop-literal
invariant-loop-literal l = l.literals.items ≡ l.initial.literals.items ++ spec.renamed_literals l.renaming (take l.literal-index l.more)
