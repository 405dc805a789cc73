-- Which groups there are is fixed by the task, the candidates and the facts.
use Rattle.std.proofs.Common.{◌≡◌, ℕ, List, sym, ap, ◌∙◌}
use Rattle.normal_task.specs.declared.task.Normal.{Normal}
use Rattle.reached_task.specs.declared.types.Fact.{Fact}
use Rattle.reached_task.specs.declared.types.Reached.{Reached}
use Rattle.contradictions.specs.declared.types.Candidate.{Candidate}
use Rattle.mutex_groups.specs.Groups.{covered_facts, IsMutexGroup}
use Rattle.mutex_groups.specs.Laws.{OneSetOfGroups}

moved : (task : Normal) (candidates : List Candidate) (a b : Reached) → a.facts ≡ b.facts → (group : List ℕ) → IsMutexGroup task candidates a group → IsMutexGroup task candidates b group
moved task candidates a b same group is =
    record {
      candidate = is.candidate;
      of_candidates = is.of_candidates;
      instance = is.instance;
      is_instance = is.is_instance;
      weighs_one = is.weighs_one;
      facts = is.facts ∙ ap (λ (facts : List Fact). covered_facts is.candidate is.instance facts) same;
    }

pub one_set_of_groups : OneSetOfGroups
one_set_of_groups task candidates a b groups others same one other group = (
  (λ in'. (other.all group).1 (moved task candidates a b same group ((one.all group).0 in'))),
  (λ in'. (one.all group).1 (moved task candidates b a (sym same) group ((other.all group).0 in'))),
)
