-- That a task is reduced has at most one proof, as a ghost field asks.
use Rattle.std.proofs.Common.{◌≡◌, ℕ, List, ap, ◌∙◌, subst}
use Rattle.std.proofs.Props.{props}
use Rattle.sas_task.specs.Task.{Task}
use Rattle.sas_restriction.specs.Relevant.{AreRelevant}
use Rattle.sas_restriction.specs.Reduced.{reduced, HasRelevantAlone, IsReduced}
use Rattle.sas_restriction.proofs.Relevance.{one_list}

are_prop : (task : Task) (vars : List ℕ) → IsProp (AreRelevant task vars)
are_prop task vars = hlevel props

-- that two tasks are equal has at most one proof
pub same_prop : (a b : Task) → IsProp (a ≡ b)
same_prop a b = hlevel props

abbrev made : (task new : Task) (vars : List ℕ) → AreRelevant task vars → new ≡ reduced vars task → HasRelevantAlone task new
made task new vars are same = record { vars = vars; are = are; same = same }

part_prop : (task new : Task) → IsProp (HasRelevantAlone task new)
part_prop task new a b =
    subst (λ vars. (are : AreRelevant task vars) (same : new ≡ reduced vars task) → a ≡ made task new vars are same)
    (one_list task a.vars b.vars a.are b.are)
    (λ are same. ap (λ are. made task new a.vars are a.same) (are_prop task a.vars a.are are) ∙ ap (made task new a.vars are) (same_prop new (reduced a.vars task) a.same same))
    b.are b.same

pub reduced_prop : (task new : Task) → IsProp (IsReduced task new)
reduced_prop task new = hlevel (props, part_prop)
