-- What follows for accepted candidates.
use Rattle.std.specs.Prelude.{◌≡◌, ℕ, ◌≤◌, Bool, true, not, List, []}
use Rattle.std.specs.List.{list_all}
use Rattle.pddl_syntax.specs.declared.types.Domain.{Domain}
use Rattle.pddl_syntax.specs.declared.types.Problem.{Problem}
use Rattle.pddl_syntax.specs.Holds as pddl
use Rattle.pddl_syntax.specs.Plan.{pddl_task}
use Rattle.pddl_syntax.specs.Spelled.{IsWellSpelled, IsWellSpelledProblem}
use Rattle.planning.specs.Plan.{IsReachable}
use Rattle.type_checker.specs.Faults.{check_faults}
use Rattle.normal_task.specs.declared.task.Normal.{Normal}
use Rattle.normal_task.specs.Lawful.{IsLawful}
use Rattle.normal_task.specs.Meaning.{State, initial, is_derived, normal_task}
use Rattle.normal_task.specs.Normalised.{numbered_atom, normal}
use Rattle.normal_task.specs.Same.{is_known_atom}
use Rattle.contradictions.specs.declared.types.Candidate.{Candidate}
use Rattle.contradictions.specs.Candidates.{covers, IsAtMostOne, HasWeight}
use Rattle.invariant_check.specs.Accepted.{is_accepted}

-- the candidate's parts are of basic predicates
abbrev pub is_basic : Normal → Candidate → Bool
is_basic task candidate = list_all (λ part. not (is_derived task part.predicate)) candidate.parts

-- An instance of an accepted candidate with weight at most one at the start has weight at most one in every reachable state.
abbrev pub InvariantsAreSound : Type 0
InvariantsAreSound =
    (task : Normal) (candidate : Candidate) → IsLawful task → is_basic task candidate ≡ true → is_accepted task candidate ≡ true →
    (instance : List ℕ) → IsAtMostOne (initial task) candidate instance → (state : State) → IsReachable (normal_task task) state → IsAtMostOne state candidate instance

-- An instance of an accepted candidate keeps a weight of at most one, said by weights alone.
abbrev pub WeightsStayAtMostOne : Type 0
WeightsStayAtMostOne =
    (task : Normal) (candidate : Candidate) → IsLawful task → is_basic task candidate ≡ true → is_accepted task candidate ≡ true →
    (instance : List ℕ) (weight : ℕ) → HasWeight (initial task) candidate instance weight → weight ≤ 1 →
    (state : State) → IsReachable (normal_task task) state → (later : ℕ) → HasWeight state candidate instance later → later ≤ 1

-- An instance of an accepted candidate keeps a weight of at most one in every reachable state of the files.
abbrev pub InvariantsAreSoundInFiles : Type 0
InvariantsAreSoundInFiles =
    (domain : Domain) (problem : Problem) → IsWellSpelled domain → IsWellSpelledProblem problem → check_faults domain problem ≡ [] → (candidate : Candidate) →
    is_basic (normal domain problem) candidate ≡ true → is_accepted (normal domain problem) candidate ≡ true →
    (instance : List ℕ) → IsAtMostOne (initial (normal domain problem)) candidate instance →
    (state : pddl.State) → IsReachable (pddl_task domain problem) state →
    (x y : pddl.GroundAtom) → is_known_atom domain problem x ≡ true → is_known_atom domain problem y ≡ true →
    covers candidate instance (numbered_atom domain problem x) ≡ true → covers candidate instance (numbered_atom domain problem y) ≡ true →
    state x ≡ true → state y ≡ true → x ≡ y
