use Rattle.std.proofs.Common.{◌≡◌, fold, take}
use Rattle.pass_h2.specs.Search.{looked_at}
use Rattle.pass_h2.proofs.search.look_at_all.Given as goal

abbrev pub invariant-loop-place : goal.invariant-loop-place
invariant-loop-place l = l.table ≡ fold (looked_at l.operators) l.initial.table (take l.place-index l.queue)
