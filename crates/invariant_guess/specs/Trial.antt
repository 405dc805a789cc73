-- The order in which candidates are tried (Helmert 2009, section 5): a queue that begins with those of one predicate, and to which each candidate's repairs are added at its trial.
use Rattle.std.specs.Prelude.{◌≡◌, ◌≢◌, ℕ, zero, suc, ◌<◌, ◌⊎◌, Bool, not, List, ◌++◌, length, filter, take, [], Option, Some, None, slice_get, if◌then◌else◌}
use Rattle.lists.specs.Members.{is_among}
use Rattle.normal_task.specs.declared.task.Normal.{Normal}
use Rattle.contradictions.specs.declared.types.Candidate.{Candidate}
use Rattle.contradictions.specs.contracts.types.CandidatePartialEq.TheImpl.{eq-value as equality}
use Rattle.invariant_check.specs.declared.types.AddPlace.{AddPlace}
use Rattle.invariant_check.specs.Accepted.{is_light, is_accepted}
use Rattle.invariant_check.specs.Repairs.{first_unbalanced, repairs_at}
use Rattle.invariant_check.specs.Extensions.{one_predicate}
use Rattle.invariant_guess.specs.declared.types.Found.{Found}

-- those that balance the first add that isn't balanced, where the candidate is light
abbrev pub repairs_of : Normal → Candidate → Option AddPlace → List Candidate
repairs_of task candidate None = []
repairs_of task candidate (Some place) = repairs_at task candidate place

abbrev pub repairs : Normal → Candidate → List Candidate
repairs task candidate = if is_light task candidate then repairs_of task candidate (first_unbalanced task candidate 0 task.schemas) else []

-- the candidates' own equality
abbrev pub is_same : Candidate → Candidate → Bool
is_same = equality.it

-- the queue after a candidate's trial: those of its repairs that aren't in it come behind
abbrev pub after_trial : Normal → List Candidate → Option Candidate → List Candidate
after_trial task queue None = queue
after_trial task queue (Some candidate) = queue ++ filter (λ repair. not (is_among is_same queue repair)) (repairs task candidate)

-- the queue after so many trials
abbrev pub turn : Normal → ℕ → List Candidate
turn task zero = one_predicate task
turn task (suc number) = after_trial task (turn task number) (slice_get (turn task number) number)

-- So many candidates are tried: the least number that is `max` or the length of the queue after so many trials.
pub record AreTried (task : Normal) (max number : ℕ) : Type 0 where
  pub ends : (number ≡ max) ⊎ (number ≡ length (turn task number))
  pub least : (earlier : ℕ) → earlier < number → (earlier ≢ max) × (earlier ≢ length (turn task earlier))

-- The candidates are tried in order, and the accepted ones of them are found.
pub record IsFound (task : Normal) (max : ℕ) (found : Found) : Type 0 where
  pub tried : AreTried task max found.tried
  pub accepted : found.accepted ≡ filter (is_accepted task) (take found.tried (turn task found.tried))

-- The trial order whole: the queue after as many trials as it then has members, for the least such number.
pub record IsTrialOrder (task : Normal) (order : List Candidate) : Type 0 where
  pub queue : order ≡ turn task (length order)
  pub least : (earlier : ℕ) → earlier < length order → earlier ≢ length (turn task earlier)
