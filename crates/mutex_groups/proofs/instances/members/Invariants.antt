use Rattle.std.proofs.Common.{◌≡◌, ℕ, List, filter}
use Rattle.std.specs.List.{range_with_len}
use Rattle.mutex_groups.specs.Groups.{covers_fact}
use Rattle.ground_task.specs.Buckets.{numbers_in}
use Rattle.mutex_groups.proofs.instances.members.Given as goal

abbrev pub invariant-loop-number : goal.invariant-loop-number
invariant-loop-number l = (instance : List ℕ) → numbers_in l.members instance ≡ filter (covers_fact l.candidate instance l.facts) (range_with_len 0 l.number)
