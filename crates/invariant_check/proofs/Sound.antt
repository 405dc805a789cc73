-- Invariants are sound: by induction over the steps.
use Rattle.std.proofs.Common.{◌≡◌, ℕ, true, List, [], ◌∷◌, sym, subst}
use Rattle.runs.specs.Runs.{Leads}
use Rattle.normal_task.specs.declared.task.Normal.{Normal}
use Rattle.normal_task.specs.Lawful.{IsLawful}
use Rattle.normal_task.specs.Meaning.{State, Step, initial, normal_task}
use Rattle.planning.specs.Task.{Takes}
use Rattle.contradictions.specs.declared.types.Candidate.{Candidate}
use Rattle.contradictions.specs.Candidates.{IsAtMostOne}
use Rattle.invariant_check.specs.Accepted.{is_accepted}
use Rattle.invariant_check.specs.Soundness.{is_basic, InvariantsAreSound}
use Rattle.invariant_check.proofs.OneStep.{keeps_at_most_one}

module _ (task : Normal) (candidate : Candidate) (lawful : IsLawful task) (basic : is_basic task candidate ≡ true) (accepted : is_accepted task candidate ≡ true) (instance : List ℕ) where
  along : (steps : List Step) (from to : State) → Leads (Takes (normal_task task)) from steps to → IsAtMostOne from candidate instance → IsAtMostOne to candidate instance
  along [] from to leads most = subst (λ s. IsAtMostOne s candidate instance) (sym leads) most
  along (step ∷ steps) from to leads most = along steps leads.0 to leads.2 (keeps_at_most_one task candidate lawful basic accepted instance from step leads.0 leads.1 most)

pub invariants_are_sound : InvariantsAreSound
invariants_are_sound task candidate lawful basic accepted instance most state reachable =
    along task candidate lawful basic accepted instance reachable.0 (initial task) state reachable.1 most
