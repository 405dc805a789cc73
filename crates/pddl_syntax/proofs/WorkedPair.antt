-- The plans of the lamp: one switch, which costs 3.
use Rattle.std.proofs.Common.{◌≡◌, ℕ, Bool, true, false, ◌||◌, List, [], ◌∷◌, ◌++◌, map, Option, Some, inl, inr, refl, sym, ap, ◌∙◌, subst, arith}
use Rattle.std.specs.Prelude.{sum, codes, IsSome, unwrap_or}
use Rattle.std.proofs.lemmas.Bool.{or_left, true≢false}
use Rattle.lists.proofs.Items.{among_contains, Among}
use Rattle.runs.specs.Runs.{Leads}
use Rattle.planning.specs.Task as planning
use Rattle.pddl_syntax.specs.declared.types.Cost.{Cost}
use Rattle.pddl_syntax.specs.declared.types.Cost.TheVariants.{Number}
use Rattle.pddl_syntax.specs.declared.types.Effect.{Effect}
use Rattle.pddl_syntax.specs.declared.types.Effect.TheVariants.{Add, Increase}
use Rattle.pddl_syntax.specs.Objects.{Binding}
use Rattle.pddl_syntax.specs.Holds.{GroundAtom, State, ground, holds_step, holds}
use Rattle.pddl_syntax.specs.Step.{Step, name_of, increases_step, increases, total, writes_step, writes}
use Rattle.pddl_syntax.specs.Plan.{pddl_task, HasPlan}
use Rattle.pddl_syntax.specs.WorkedPair.{start, alone, switch, lamp, lit_lamp}
use Rattle.pddl_syntax.proofs.ConditionCases as c
use Rattle.pddl_syntax.proofs.EffectCases as e

abbrev task : planning.PlanningTask GroundAtom Step
task = pddl_task lamp lit_lamp

abbrev lit : GroundAtom
lit = ground [] (alone (codes "lit"))

abbrev one : Step
one = record { action = switch; objects = [] }

abbrev adds : Effect
adds = Add (alone (codes "lit"))

abbrev costs : Effect
costs = Increase (alone (codes "total-cost")) (Number 3) start

goal_is : (full : State) → holds lamp lit_lamp full lit_lamp.goal [] ≡ full lit
goal_is full = ap (λ (f : Binding → Bool). f []) (c.fold-Atom (Binding → Bool) (holds_step lamp lit_lamp full) (alone (codes "lit")))

cost_some : task.cost_of one ≡ Some 3
cost_some =
    ap (total [] [])
    (e.fold-And (List Cost) increases_step (adds ∷ costs ∷ []) start
    ∙ ap (λ (l : List Cost). l ++ (increases costs ++ [])) (e.fold-Add (List Cost) increases_step (alone (codes "lit")))
    ∙ ap (λ (l : List Cost). l ++ []) (e.fold-Increase (List Cost) increases_step (alone (codes "total-cost")) (Number 3) start))

cost_is : planning.cost task one ≡ 3
cost_is = ap (λ (o : Option ℕ). unwrap_or o 0) cost_some

-- the switch adds the lit lamp
lit_added : (full : State) → writes lamp lit_lamp full true switch.effect [] lit ≡ true
lit_added full =
    let ws = writes_step lamp lit_lamp full true in
    ap (λ (f : Binding → State). f [] lit) (e.fold-And (Binding → State) ws (adds ∷ costs ∷ []) start)
    ∙ ap (λ (f : Binding → State). f [] lit || (writes lamp lit_lamp full true costs [] lit || false)) (e.fold-Add (Binding → State) ws (alone (codes "lit")))

abbrev after : State
after = planning.successor task task.initial task.initial one

basic_full : (state : State) → planning.IsFull task state state
basic_full state = record { basic = λ atom basic. refl; derived = λ atom derived. absurd (true≢false (sym derived)) }

takes : planning.Takes task task.initial one after
takes =
    record {
      of_task = (0, omega arith, refl);
      full = task.initial;
      is_full = basic_full task.initial;
      applicable = ap (λ (f : Binding → Bool). f []) (c.fold-True (Binding → Bool) (holds_step lamp lit_lamp task.initial) start);
      costs = subst IsSome (sym cost_some) refl;
      follows = λ atom. refl;
    }

pub has_plan : HasPlan lamp lit_lamp (codes "switch" ∷ []) 3
has_plan =
    record {
      steps = one ∷ [];
      end = after;
      leads = (after, takes, refl);
      meets = record { full = after; is_full = basic_full after; holding = goal_is after ∙ or_left (writes lamp lit_lamp task.initial true switch.effect [] lit) _ (lit_added task.initial) };
      same_names = refl;
      same_cost = ap (λ (cost : ℕ). sum (cost ∷ [])) cost_is;
    }

-- the goal doesn't hold at the start
pub no_empty_plan : (cost : ℕ) → HasPlan lamp lit_lamp [] cost → ⊥
no_empty_plan cost plan = by plan.steps plan.same_names plan.leads
  where
    by : (steps : List Step) → map name_of steps ≡ [] → Leads (planning.Takes task) task.initial steps plan.end → ⊥
    by [] none ends =
        true≢false
        (sym plan.meets.holding
        ∙ goal_is plan.meets.full
        ∙ plan.meets.is_full.basic lit refl
        ∙ ap (λ (state : State). state lit) ends)
    by (step ∷ steps) none leads = cc

-- each step of the task is the switch, so one of them costs 3
pub only_cost : (cost : ℕ) → HasPlan lamp lit_lamp (codes "switch" ∷ []) cost → cost ≡ 3
only_cost cost plan = by plan.steps plan.same_names plan.same_cost plan.leads
  where
    the_one : (step : Step) → Among step (one ∷ []) → one ≡ step
    the_one step (inl same) = same
    the_one step (inr none) = absurd none

    by : (steps : List Step) → map name_of steps ≡ codes "switch" ∷ [] → sum (map (planning.cost task) steps) ≡ cost → Leads (planning.Takes task) task.initial steps plan.end → cost ≡ 3
    by [] names total leads = absurd cc
    by (step ∷ []) names total leads =
        let same = the_one step (among_contains (one ∷ []) step leads.1.of_task) in
        sym total ∙ ap (λ (step : Step). sum (planning.cost task step ∷ [])) (sym same) ∙ ap (λ (cost : ℕ). sum (cost ∷ [])) cost_is
    by (step ∷ other ∷ steps) names total leads = absurd cc
