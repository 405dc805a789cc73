-- What holds of groups: they are sorted lists of basic facts, of which at most one is true.
use Rattle.std.specs.Prelude.{◌≡◌, ℕ, ◌<◌, true, false, List, length, Contains}
use Rattle.std.specs.List.{list_all}
use Rattle.std.specs.List.Sorted.{IsStrictlyIncreasing}
use Rattle.lists.specs.SameMembers.{SameMembers}
use Rattle.normal_task.specs.declared.task.Normal.{Normal}
use Rattle.normal_task.specs.Lawful.{IsLawful}
use Rattle.ground_task.specs.declared.types.Ground.{Ground}
use Rattle.ground_task.specs.Instances.{IsGroundTask}
use Rattle.reached_task.specs.declared.types.Reached.{Reached}
use Rattle.reached_task.specs.ReachedTask.{is_derived}
use Rattle.reached_task.specs.Reachable.{IsReachedTask}
use Rattle.reached_task.specs.Exclusive.{IsExclusive}
use Rattle.contradictions.specs.declared.types.Candidate.{Candidate}
use Rattle.invariant_check.specs.Accepted.{is_accepted}
use Rattle.invariant_check.specs.WellFormed.{is_well_formed}
use Rattle.mutex_groups.specs.Groups.{IsMutexGroup, AreGroups}

-- the reached task is that of the normal task's ground task
pub record IsReachedOf (task : Normal) (reached : Reached) : Type 0 where
  pub ground_of : Ground
  pub is_ground : IsGroundTask task ground_of
  pub is_reached : IsReachedTask ground_of reached

-- the groups of accepted candidates are exclusive, where the reached task is the normal task's
abbrev pub AreExclusive : Normal → List Candidate → Reached → List (List ℕ) → Type 0
AreExclusive task candidates reached groups =
    IsReachedOf task reached → list_all (is_accepted task) candidates ≡ true → (group : List ℕ) → Contains groups group → IsExclusive reached group

abbrev pub GroupsAreExclusive : Type 0
GroupsAreExclusive =
    (task : Normal) (candidates : List Candidate) (reached : Reached) (groups : List (List ℕ)) → IsLawful task → list_all (is_well_formed task) candidates ≡ true →
    AreGroups task candidates reached groups → AreExclusive task candidates reached groups

-- a group is sorted without repeats
abbrev pub GroupsAreSorted : Type 0
GroupsAreSorted = (task : Normal) (candidates : List Candidate) (reached : Reached) (group : List ℕ) → IsMutexGroup task candidates reached group → IsStrictlyIncreasing group

-- a group has facts only
abbrev pub GroupsAreFacts : Type 0
GroupsAreFacts =
    (task : Normal) (candidates : List Candidate) (reached : Reached) (group : List ℕ) → IsMutexGroup task candidates reached group →
    (fact : ℕ) → Contains group fact → fact < length reached.facts

-- a group of well formed candidates has basic facts only
abbrev pub GroupsAreBasic : Type 0
GroupsAreBasic =
    (task : Normal) (candidates : List Candidate) (reached : Reached) (group : List ℕ) → IsReachedOf task reached → list_all (is_well_formed task) candidates ≡ true →
    IsMutexGroup task candidates reached group → (fact : ℕ) → Contains group fact → is_derived reached.facts fact ≡ false

-- the task, the candidates and the facts fix which groups there are
abbrev pub OneSetOfGroups : Type 0
OneSetOfGroups =
    (task : Normal) (candidates : List Candidate) (a b : Reached) (groups others : List (List ℕ)) → a.facts ≡ b.facts →
    AreGroups task candidates a groups → AreGroups task candidates b others → SameMembers groups others
