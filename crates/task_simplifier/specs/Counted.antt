-- Words that the private contracts of the order share. No public clause cites them.
use Rattle.std.specs.Prelude.{ℕ}
use Rattle.std.specs.Cmp.{IsTotalOrder}
use Rattle.std.specs.Ordering.{nat_cmp, then_cmp, on}
use Rattle.std.specs.declared.cmp.Ordering.{Ordering}
use Rattle.std.proofs.lemmas.Cmp.{nat_cmp_total, then_total, on_total}
use Rattle.task_simplifier.specs.declared.tallies.Tally.{Tally}
use Rattle.task_simplifier.specs.declared.counted.Counted.{Counted}

abbrev pub no_tally : Tally
no_tally = record { operators = 0; last = 0 }

-- variables with fewer operators come first, and of several with as many the lower number
abbrev pub counted_cmp : Counted → Counted → Ordering
counted_cmp = then_cmp (on (λ c. c.operators) nat_cmp) (on (λ c. c.var) nat_cmp)

pub counted_total : IsTotalOrder counted_cmp
counted_total = then_total (on_total (λ (c : Counted). c.operators) nat_cmp_total) (on_total (λ (c : Counted). c.var) nat_cmp_total)

abbrev pub counted_by : (ℕ → ℕ) → ℕ → Counted
counted_by operators var = record { operators = operators var; var = var }
