-- The task that the passes make of a domain and a problem translates them: the laws of the passes, one after another.
use Rattle.std.proofs.Common.{◌≡◌, ℕ, Bool, ◌<◌, true, false, List, [], length, refl, sym, ◌∙◌, subst}
use Rattle.std.specs.Prelude.{◌^◌, Result, Ok, Err, IfOk, All}
use Rattle.std.specs.List.{list_all}
use Rattle.lists.proofs.Members.{all_from_members}
use Rattle.runs.specs.Systems.{Through}
use Rattle.runs.proofs.Systems.{same_names_and_costs}
use Rattle.planning.specs.Task.{State, PlanningTask}
use Rattle.planning.specs.Plan.{LeavesPlan, system as plans}
use Rattle.planning.specs.Same.{MeansTheSame}
use Rattle.planning.proofs.IdleSteps.{left_plan}
use Rattle.planning.proofs.SameRuns.{means_through}
use Rattle.pddl_syntax.specs.declared.types.Domain.{Domain}
use Rattle.pddl_syntax.specs.declared.types.Problem.{Problem}
use Rattle.pddl_syntax.specs.Words.{Name}
use Rattle.pddl_syntax.specs.Holds.{GroundAtom}
use Rattle.pddl_syntax.specs.Plan.{pddl_task, HasPlan, HasBusyPlan}
use Rattle.normal_task.specs.declared.task.Normal.{Normal}
use Rattle.contradictions.specs.declared.types.Candidate.{Candidate}
use Rattle.invariant_check.specs.WellFormed.{is_well_formed}
use Rattle.invariant_guess.specs.declared.types.Found.{Found}
use Rattle.ground_task.specs.declared.types.Ground.{Ground}
use Rattle.reachable_instances.specs.Effects.{LeavesOutEffects, HoldsReachableEffects}
use Rattle.ground_task.specs.Literals.{meaning}
use Rattle.reached_task.specs.declared.types.Reached.{Reached}
use Rattle.reached_task.specs.ReachedTask.{is_derived, reached_task}
use Rattle.reached_task.specs.Reachable.{IsReachedTask}
use Rattle.reached_task.specs.Layers.{AreLayers}
use Rattle.mutex_groups.specs.Groups.{IsMutexGroup, AreGroups}
use Rattle.mutex_groups.specs.Laws.{IsReachedOf, GroupsAreSorted, GroupsAreFacts, GroupsAreBasic}
use Rattle.group_cover.specs.Cover.{IsCover}
use Rattle.fdr_encoder.specs.Covers.{IsBasicGroup}
use Rattle.fdr_encoder.specs.Encoding.{IsEncoding}
use Rattle.fdr_encoder.specs.Simulates.{Correspond, Simulates}
use Rattle.plan_backmap.specs.Plans.{steps}
use Rattle.plan_backmap.specs.Solutions.{NamesTellCosts, SolutionsCostTheTotal, step_names}
use Rattle.sas_restriction.specs.KeepsCosts.{KeepsCosts}
use Rattle.pass_book.specs.declared.kind.PassKind.{PassKind}
use Rattle.pass_book.specs.Passes.{IsChain}
use Rattle.sas_task.specs.Task.{Task}
use Rattle.sas_task.specs.Valid.{IsValid}
use Rattle.sas_task.specs.Solution.{HasSolution, system as solutions}
use Rattle.sas_task.specs.Keeps.{Keeps, KeepsChanging}
use Rattle.sas_task.proofs.KeepsLaws.{shorter_through}
use Rattle.run_task.specs.RunTask.{IsRunEncoding}
use Rattle.run_task.specs.Theorem.{Translates}

-- the groups of well formed candidates are sorted and have basic facts
pub sorted_groups : (made : Normal) (candidates : List Candidate) (reached : Reached) (groups : List (List ℕ)) →
    GroupsAreSorted → GroupsAreFacts → GroupsAreBasic → IsReachedOf made reached → list_all (is_well_formed made) candidates ≡ true →
    AreGroups made candidates reached groups → All (IsBasicGroup reached) groups
sorted_groups made candidates reached groups sorted facts basic reached_of formed are =
    all_from_members (IsBasicGroup reached) groups (λ group in'.
    let is : IsMutexGroup made candidates reached group = (are.all group).0 in' in
    record {
      sorted = sorted made candidates reached group is;
      facts = all_from_members (λ f. f < length reached.facts) group (facts made candidates reached group is);
      basic = all_from_members (λ f. is_derived reached.facts f ≡ false) group (basic made candidates reached group reached_of formed is);
    })

-- tasks that mean the same in turn, the first of them what the last does
pub in_turn : {A S B T C U D V : Type 0} (one : PlanningTask A S) (two : PlanningTask B T) (three : PlanningTask C U) (four : PlanningTask D V) (R : State A → State B → Type 0) (R' : State B → State C → Type 0) (R'' : State C → State D → Type 0) →
    MeansTheSame one two R → MeansTheSame two three R' → MeansTheSame three four R'' → MeansTheSame one four (Through (Through R R') R'')
in_turn one two three four R R' R'' first second third =
    means_through one three four (Through R R') R'' (Through (Through R R') R'') (λ s u both. both) (λ s t u before after. (t, before, after))
    (means_through one two three R R' (Through R R') (λ s u both. both) (λ s t u before after. (t, before, after)) first second) third

module _ (domain : Domain) (problem : Problem) (reached : Reached) (sets : List (List ℕ)) (encoded task : Task) (Related : State GroundAtom → State ℕ → Type 0)
    (means : MeansTheSame (pddl_task domain problem) (meaning (reached_task reached)) Related) (same : Simulates sets reached encoded) (kept : Keeps encoded task) (changing : KeepsChanging encoded task)
    (idle : (names : List Name) (cost : ℕ) (plan : HasPlan domain problem names cost) → LeavesPlan (pddl_task domain problem) names cost plan) where
  plan_of : (names : List Name) (cost : ℕ) → HasSolution task names cost → HasPlan domain problem names cost
  plan_of names cost solution =
      (means.plans.plans names cost).1 ((same_names_and_costs (plans (meaning (reached_task reached))) (solutions encoded) (Correspond sets reached encoded) same.runs names cost).1 (kept.no_more names cost solution))

  solution_of : (names : List Name) (cost : ℕ) → HasBusyPlan domain problem names cost → HasSolution task names cost
  solution_of names cost plan = changing names cost (same.busy_plans names cost ((means.plans.busy_plans names cost).0 plan))

  pub translates : IsValid task → NamesTellCosts task.operators → SolutionsCostTheTotal → Translates [] domain problem task
  translates valid tells costs =
      record {
        no_more = plan_of;
        complete = λ none. solution_of;
        -- the names of the steps that aren't idle are those of a solution
        no_less = λ names cost plan.
            let left = idle names cost plan in
            let busy = left_plan (pddl_task domain problem) names cost plan left in
            record { names' = _; cost' = _; shorter = busy.1; no_dearer = left.no_dearer; solution = solution_of _ _ busy.0 };
        idle = idle;
        mapped = λ plan cost solution. subst (HasPlan domain problem (step_names (steps task.operators plan))) (costs task plan cost valid tells solution) (plan_of (step_names (steps task.operators plan)) cost solution);
        sound = kept.sound same.is_sound;
      }

-- ---- with passes

-- a task whose operators have the names and costs of another's
pub tells_too : (old new : Task) → KeepsCosts old new → NamesTellCosts old.operators → NamesTellCosts new.operators
tells_too old new keeps tells a b in-a in-b same =
    let from-a = keeps a in-a in
    let from-b = keeps b in-b in
    sym from-a.3 ∙ tells from-a.0 from-b.0 from-a.1 from-b.1 (from-a.2 ∙ same ∙ sym from-b.2) ∙ from-b.3

-- what passes make of a task that translates a pair translates it too
pub passed_translates : (passes : List PassKind) (domain : Domain) (problem : Problem) (first task : Task) → Translates [] domain problem first → IsChain passes first task
    → Keeps first task → IsValid task → NamesTellCosts task.operators → SolutionsCostTheTotal → Translates passes domain problem task
passed_translates passes domain problem first task translates chain kept valid tells costs =
    record {
      no_more = plan_of_new;
      complete = λ none names cost busy.
          let same : task ≡ first = subst (λ (kinds : List PassKind). IsChain kinds first task) none chain in
          subst (λ (t : Task). HasSolution t names cost) (sym same) (translates.complete refl names cost busy);
      no_less = λ names cost plan. shorter_through first task kept names cost (translates.no_less names cost plan);
      idle = translates.idle;
      mapped = λ plan cost solution. subst (HasPlan domain problem (step_names (steps task.operators plan))) (costs task plan cost valid tells solution) (plan_of_new (step_names (steps task.operators plan)) cost solution);
      sound = kept.sound translates.sound;
    }
  where
    plan_of_new : (names : List Name) (cost : ℕ) → HasSolution task names cost → HasPlan domain problem names cost
    plan_of_new names cost has = translates.no_more names cost (kept.no_more names cost has)

-- ---- what the calls give, put together

-- what is reached of the instances that can be is reached of the task
pub reached_of_reachable : {E : Type 0} (made : Normal) (part : Ground) (result : Result Reached E) → HoldsReachableEffects made part
    → ((whole part : Ground) → LeavesOutEffects whole part → (reached : Reached) → IsReachedTask part reached → IsReachedTask whole reached)
    → IfOk result (IsReachedTask part) → IfOk result (IsReachedOf made)
reached_of_reachable made part (Ok reached) holds same is_reached = record { ground_of = holds.whole; is_ground = holds.is; is_reached = same holds.whole part holds.leaves reached is_reached }
reached_of_reachable made part (Err end) holds same is_reached = tt

-- the passes' results up to the encoding are those of the run
pub encoding_of_run : {E : Type 0} (full : Bool) (made : Normal) (found : Found) (reached : Reached) (layers layers' : List ℕ) (groups sets : List (List ℕ)) (facts : ℕ) (result : Result Task E)
    → IsReachedOf made reached → AreLayers reached layers → layers' ≡ layers → AreGroups made found.accepted reached groups
    → facts ≡ length reached.facts → facts < 2 ^ 64 → IsCover full facts groups sets
    → IfOk result (IsEncoding sets groups layers' reached) → IfOk result (IsRunEncoding full made found)
encoding_of_run full made found reached layers layers' groups sets facts (Ok encoded) is_reached are same are_groups all few is_cover encodes =
    record {
      reached = reached;
      layers = layers;
      groups = groups;
      sets = sets;
      is_reached = is_reached;
      few = subst (λ n. n < 2 ^ 64) all few;
      are_layers = are;
      are_groups = are_groups;
      is_cover = subst (λ n. IsCover full n groups sets) all is_cover;
      encodes = subst (λ (l : List ℕ). IsEncoding sets groups l reached encoded) same encodes;
    }
encoding_of_run full made found reached layers layers' groups sets facts (Err end) is_reached are same are_groups all few is_cover encodes = tt
