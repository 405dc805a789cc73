use Rattle.std.proofs.Common.{length}
use Rattle.plan_backmap.proofs.PassedLines.{Written}
use Rattle.plan_backmap.proofs.writing.push_lines.Given as goal

abbrev pub invariant-loop-rest : goal.invariant-loop-rest
invariant-loop-rest l = Written l.costs.operators l.bytes l.number l.total l.rest l.fn.text.items l.text.items

abbrev pub decreases-loop-rest : goal.decreases-loop-rest
decreases-loop-rest l = length l.rest
