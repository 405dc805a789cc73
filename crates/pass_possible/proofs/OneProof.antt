-- That a task is pruned has at most one proof, as a ghost field asks.
use Rattle.std.proofs.Common.{◌≡◌, ap, ◌∙◌, subst}
use Rattle.std.proofs.Props.{props}
use Rattle.sas_task.specs.Task.{Task}
use Rattle.pass_possible.specs.Possible.{Pairs, ArePossible}
use Rattle.pass_possible.specs.Pruned.{pruned, HasPossibleAlone, IsPruned}
use Rattle.pass_possible.proofs.Pruned.{one_set}
use Rattle.sas_restriction.proofs.OneProof.{same_prop}

are_prop : (task : Task) (pairs : Pairs) → IsProp (ArePossible task pairs)
are_prop task pairs = hlevel props

abbrev made : (task new : Task) (pairs : Pairs) → ArePossible task pairs → new ≡ pruned pairs task → HasPossibleAlone task new
made task new pairs are same = record { pairs = pairs; are = are; same = same }

part_prop : (task new : Task) → IsProp (HasPossibleAlone task new)
part_prop task new a b =
    subst (λ pairs. (are : ArePossible task pairs) (same : new ≡ pruned pairs task) → a ≡ made task new pairs are same)
    (one_set task a.pairs b.pairs a.are b.are)
    (λ are same. ap (λ are. made task new a.pairs are a.same) (are_prop task a.pairs a.are are) ∙ ap (made task new a.pairs are) (same_prop new (pruned a.pairs task) a.same same))
    b.are b.same

pub pruned_prop : (task new : Task) → IsProp (IsPruned task new)
pruned_prop task new = hlevel (props, part_prop)
