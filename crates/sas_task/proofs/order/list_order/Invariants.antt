use Rattle.std.proofs.Common.{◌≡◌, drop}
use Rattle.std.specs.Cmp.Lexicographic.{slice_cmp}
use Rattle.sas_task.proofs.order.list_order.Given as goal

abbrev pub invariant-loop-i : goal.invariant-loop-i
invariant-loop-i g l = slice_cmp g.T.Ranked.cmp l.front l.back ≡ slice_cmp g.T.Ranked.cmp (drop l.i l.front) (drop l.i l.back)
