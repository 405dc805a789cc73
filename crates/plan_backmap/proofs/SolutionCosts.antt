-- What a solution costs that has the names of a plan's steps.
use Rattle.std.proofs.Common.{◌≡◌, ℕ, ◌+◌, Bool, true, false, inl, inr, List, [], ◌∷◌, map, Option, Some, None, refl, sym, ap, ◌∙◌, if◌then◌else◌}
use Rattle.std.specs.Prelude.{Contains}
use Rattle.std.specs.List.{cons_option, sum_by}
use Rattle.std.specs.Option.{option_map}
use Rattle.std.proofs.lemmas.List.Sums.{sum-map, sum_by-cons}
use Rattle.lists.proofs.Items.{Among, contains_among, Each}
use Rattle.names.specs.Names.{Name, is_same}
use Rattle.names.proofs.SameNames.{same_name}
use Rattle.runs.specs.Runs.{Leads}
use Rattle.sas_task.specs.declared.parts.Operator.{Operator}
use Rattle.sas_task.specs.Task.{Task}
use Rattle.sas_task.specs.Valid.{IsValid}
use Rattle.sas_task.specs.Solution.{Step as TaskStep, cost_in}
use Rattle.sas_task.proofs.ValidParts.{operator_law}
use Rattle.plan_backmap.specs.declared.plan.Step.{Step}
use Rattle.plan_backmap.specs.Lines.{is_step, words, name}
use Rattle.plan_backmap.specs.Plans.{cost_of, step_of, steps, total}
use Rattle.plan_backmap.specs.Solutions.{NamesTellCosts, step_names, SolutionsCostTheTotal}

-- an operator of this name and this cost
record Named (operators : List Operator) (wanted : Name) (cost : ℕ) : Type 0 where
  pub operator : Operator
  pub among : Among operator operators
  pub same_name : operator.name ≡ wanted
  pub same_cost : operator.cost ≡ cost

costs_one : (operators : List Operator) (wanted : Name) (cost : ℕ) → cost_of operators wanted ≡ Some cost → Named operators wanted cost
costs_one [] wanted cost none = absurd cc
costs_one (operator ∷ operators) wanted cost found = by (is_same wanted operator.name) refl found (costs_one operators wanted cost)
  where
    by : (t : Bool) → is_same wanted operator.name ≡ t → (if t then Some operator.cost else cost_of operators wanted) ≡ Some cost →
        (cost_of operators wanted ≡ Some cost → Named operators wanted cost) → Named (operator ∷ operators) wanted cost
    by true e found rest = record { operator = operator; among = inl refl; same_name = sym (same_name wanted operator.name e); same_cost = cc (found) }
    by false e found rest = let later = rest found in record { operator = later.operator; among = inr later.among; same_name = later.same_name; same_cost = later.same_cost }

module _ (operators : List Operator) where
  -- the step has the cost of an operator of its name
  abbrev IsMapped : Step → Type 0
  IsMapped step = cost_of operators (name step.words) ≡ Some step.cost

  mapped_here : (line : List ℕ) (after : List Step) → Each IsMapped after → Each IsMapped (cons_option (step_of operators line) after)
  mapped_here line after each = by (is_step line) (cost_of operators (name (words line))) refl
    where
      by : (t : Bool) (found : Option ℕ) → cost_of operators (name (words line)) ≡ found →
          Each IsMapped (cons_option (if t then option_map (λ cost. record { words = words line; cost = cost }) found else None) after)
      by true (Some cost) e = (e, each)
      by true None e = each
      by false found e = each

  mapped_steps : (plan : List (List ℕ)) → Each IsMapped (steps operators plan)
  mapped_steps [] = tt
  mapped_steps (line ∷ plan) = mapped_here line (steps operators plan) (mapped_steps plan)

module _ (task : Task) (valid : IsValid task) (tell : NamesTellCosts task.operators) where
  -- the steps of a run are operators of the task
  of_task : (run : List Operator) (from to : List ℕ) → Leads (TaskStep task) from run to → Each (Contains task.operators) run
  of_task [] from to leads = tt
  of_task (operator ∷ run) from to leads = (leads.1.of_task, of_task run leads.0 to leads.2)

  -- in a valid task each operator costs what it says
  own_cost : (operator : Operator) → Contains task.operators operator → cost_in task operator ≡ operator.cost
  own_cost operator in' = by task.metric (operator_law task valid operator in').unit_cost
    where
      by : (metric : Bool) → (metric ≡ false → operator.cost ≡ 1) → (if metric then operator.cost else 1) ≡ operator.cost
      by true unit = refl
      by false unit = sym (unit refl)

  one_cost : (operator : Operator) (step : Step) → Contains task.operators operator → IsMapped task.operators step → operator.name ≡ name step.words → cost_in task operator ≡ step.cost
  one_cost operator step in' mapped same =
      let first = costs_one task.operators (name step.words) step.cost mapped in
      own_cost operator in' ∙ tell operator first.operator in' (contains_among task.operators first.operator first.among) (same ∙ sym first.same_name) ∙ first.same_cost

  same_total : (run : List Operator) (taken : List Step) → Each (Contains task.operators) run → Each (IsMapped task.operators) taken → map (λ o. o.name) run ≡ step_names taken → sum_by (cost_in task) run ≡ total taken
  same_total [] [] of mapped same = refl
  same_total [] (step ∷ taken) of mapped same = absurd cc
  same_total (operator ∷ run) [] of mapped same = absurd cc
  same_total (operator ∷ run) (step ∷ taken) of mapped same =
      let here = one_cost operator step of.0 mapped.0 (cc (same)) in
      let rest = same_total run taken of.1 mapped.1 (cc (same)) in
      sum_by-cons (cost_in task) operator run ∙ ap (λ (n : ℕ). n + sum_by (cost_in task) run) here ∙ ap (λ (n : ℕ). step.cost + n) rest ∙ sym (sum_by-cons (λ (s : Step). s.cost) step taken)

pub cost_the_total : SolutionsCostTheTotal
cost_the_total task plan cost valid tell solution =
    sym solution.same_cost ∙ sum-map (cost_in task) solution.steps
    ∙ same_total task valid tell solution.steps (steps task.operators plan) (of_task task valid tell solution.steps task.state solution.end solution.leads) (mapped_steps task.operators plan) solution.same_names
