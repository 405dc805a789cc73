use Rattle.std.proofs.Common.{◌≡◌, ◌==◌, ℕ, false, get_or, length, take}
use Rattle.std.specs.List.{list_any}
use Rattle.fdr_effects.proofs.flags.flags.Given as goal

abbrev pub invariant-loop-number : goal.invariant-loop-number
invariant-loop-number l = (length l.flags.items ≡ l.count) × ((number : ℕ) → get_or l.flags.items number false ≡ list_any (λ n. n == number) (take l.number-index l.numbers))
