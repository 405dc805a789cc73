-- Mutex groups: the facts that an instance of a candidate covers, where its weight in the initial state is one (Helmert 2009, section 5).
use Rattle.std.specs.Prelude.{◌≡◌, ℕ, Bool, false, List, length, filter, replicate, slice_get, nat_eq, Contains, ◌↔◌}
use Rattle.std.specs.Cmp.Lexicographic.{pointwise}
use Rattle.std.specs.List.{range_with_len, IsDistinct}
use Rattle.std.specs.Option.{option_map_or}
use Rattle.normal_task.specs.declared.task.Normal.{Normal}
use Rattle.normal_task.specs.Meaning.{initial, choices}
use Rattle.reached_task.specs.declared.types.Fact.{Fact}
use Rattle.reached_task.specs.declared.types.Reached.{Reached}
use Rattle.contradictions.specs.declared.types.Candidate.{Candidate}
use Rattle.contradictions.specs.Candidates.{covers, HasWeight}

-- the instance covers the fact of this number
abbrev pub covers_fact : Candidate → List ℕ → List Fact → ℕ → Bool
covers_fact candidate instance facts number = option_map_or (λ fact. covers candidate instance fact.atom) (slice_get facts number) false

-- the facts that the instance covers, in order
abbrev pub covered_facts : Candidate → List ℕ → List Fact → List ℕ
covered_facts candidate instance facts = filter (covers_fact candidate instance facts) (range_with_len 0 (length facts))

-- the list gives each parameter of the candidate an object
abbrev pub IsInstance : Normal → Candidate → List ℕ → Type 0
IsInstance task candidate instance = Contains (choices (replicate candidate.parameters (range_with_len 0 (length task.objects)))) instance

-- some instance of one of the candidates, with weight one in the initial state, covers just these reachable facts
pub record IsMutexGroup (task : Normal) (candidates : List Candidate) (reached : Reached) (group : List ℕ) : Type 0 where
  pub candidate : Candidate
  pub of_candidates : Contains candidates candidate
  pub instance : List ℕ
  pub is_instance : IsInstance task candidate instance
  pub weighs_one : HasWeight (initial task) candidate instance 1
  pub facts : group ≡ covered_facts candidate instance reached.facts

-- the groups, each once, in whatever order
pub record AreGroups (task : Normal) (candidates : List Candidate) (reached : Reached) (groups : List (List ℕ)) : Type 0 where
  pub all : (group : List ℕ) → Contains groups group ↔ IsMutexGroup task candidates reached group
  pub once : IsDistinct (pointwise nat_eq) groups
