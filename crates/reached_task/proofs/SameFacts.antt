-- Facts in order are known by their members.
use Rattle.std.proofs.Common.{◌≡◌, List, sym, ap, ◌∙◌}
use Rattle.std.specs.List.{Contains}
use Rattle.std.specs.List.Sorted.{IsStrictlySortedBy}
use Rattle.std.specs.Ordering.{ordering_reverse, is_lt}
use Rattle.std.specs.declared.cmp.Ordering.TheVariants.{Less, Greater}
use Rattle.std.proofs.lemmas.Bool.{true≢false}
use Rattle.lists.proofs.Ordered.{same_ordered, strictly_ordered}
use Rattle.normal_task.specs.declared.task.GroundAtom.{GroundAtom}
use Rattle.reached_task.specs.Reachable.{fact_cmp}
use Rattle.reached_task.proofs.OrderedFacts.{fact_total}

not_both : (a b : GroundAtom) → fact_cmp a b ≡ Less → fact_cmp b a ≡ Less → ⊥
not_both a b less more = let e : Less ≡ Greater = sym less ∙ fact_total.antisymm a b ∙ ap ordering_reverse more in true≢false (ap is_lt e)

pub same_facts : (xs ys : List GroundAtom) → IsStrictlySortedBy fact_cmp xs → IsStrictlySortedBy fact_cmp ys → ((z : GroundAtom) → Contains xs z → Contains ys z) → ((z : GroundAtom) → Contains ys z → Contains xs z) → xs ≡ ys
same_facts xs ys sorted sorted' = same_ordered (λ a b. fact_cmp a b ≡ Less) not_both xs ys (strictly_ordered fact_cmp xs sorted) (strictly_ordered fact_cmp ys sorted')
