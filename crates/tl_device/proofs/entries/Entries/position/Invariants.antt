use Rattle.std.proofs.Common.{◌≢◌, ◌<◌, ℕ}
use Rattle.tl_device.specs.memory.Entries.{name_at}
use Rattle.tl_device.proofs.entries.Entries.position.Given as goal

abbrev pub invariant-loop-i : goal.invariant-loop-i
invariant-loop-i l = (k : ℕ) → k < l.i → name_at l.self k ≢ l.name
