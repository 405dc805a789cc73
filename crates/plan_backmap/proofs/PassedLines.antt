-- What the loop over the lines of a plan file keeps.
use Rattle.std.proofs.Common.{◌≡◌, ℕ, ◌+◌, ◌*◌, ◌≤◌, List, [], ◌∷◌, ◌++◌, length, Option, Some, None, Err, refl, sym, ap, ◌∙◌, arith, append_assoc, append-nil}
use Rattle.std.specs.Prelude.{IfSome}
use Rattle.std.specs.List.{cons_option, flat_map}
use Rattle.std.specs.Option.{option_to_list}
use Rattle.std.proofs.lemmas.List.Concat.{flat_map-append}
use Rattle.std.proofs.lemmas.List.Sums.{sum_by-append}
use Rattle.plan_backmap.proofs.Cuts.{next_line, shorter}
use Rattle.lists.specs.Stops.{IfFault, IsFirst}
use Rattle.lists.specs.declared.stop.Stop.{Stop}
use Rattle.lists.specs.declared.stop.Stop.TheVariants as stops
use Rattle.plan_backmap.specs.declared.fault.PlanFault.{PlanFault}
use Rattle.plan_backmap.specs.Lines.{plan_lines, trimmed}
use Rattle.plan_backmap.specs.FirstLine.{first_line, after_line}
use Rattle.plan_backmap.specs.PlanText.{step_line}
use Rattle.plan_backmap.specs.Plans as spec
use Rattle.plan_backmap.specs.declared.plan.Step.{Step}
use Rattle.sas_task.specs.declared.parts.Operator.{Operator}

-- so many lines of a text are passed without a fault, and gave these steps; the rest is left
pub record Passed (operators : List Operator) (text : List ℕ) (number : ℕ) (steps : List Step) (total : ℕ) (rest : List ℕ) : Type 0 where
  pub taken : spec.steps operators (plan_lines text) ≡ steps ++ spec.steps operators (plan_lines rest)
  pub faultless : spec.faults operators (plan_lines text) ≡ spec.faults_from (number + 1) operators (plan_lines rest)
  pub cost : total ≡ spec.total steps
  pub small : total ≤ 2147483647 * number
  pub room : number + length rest ≤ length text

-- a step that was found stands behind those before it
found_behind : (before after : List Step) (found : Option Step) → before ++ cons_option found after ≡ (before ++ option_to_list found) ++ after
found_behind before after None = ap (λ steps. steps ++ after) (sym (append-nil before))
found_behind before after (Some step) = sym (append_assoc before (step ∷ []) after)

small_found : (found : Option Step) → IfSome found (λ step. step.cost ≤ 2147483647) → spec.total (option_to_list found) ≤ 2147483647
small_found None low = omega arith
small_found (Some step) low = let bound : 0 + step.cost ≤ 2147483647 = omega (arith, low) in bound

module _ (operators : List Operator) (text : List ℕ) (number : ℕ) (steps : List Step) (total : ℕ) (rest : List ℕ) (p : Passed operators text number steps total rest) (some : 1 ≤ length rest)
    (line : List ℕ) (line_is : line ≡ trimmed (first_line rest)) where
  -- the fault of this line stands before those of the lines after it
  faults_split : spec.faults operators (plan_lines text) ≡ cons_option (spec.fault_of operators (number + 1) line) (spec.faults_from (number + 1 + 1) operators (plan_lines (after_line rest)))
  faults_split =
      p.faultless ∙ ap (spec.faults_from (number + 1) operators) (next_line rest some)
      ∙ ap (λ l. cons_option (spec.fault_of operators (number + 1) l) (spec.faults_from (number + 1 + 1) operators (plan_lines (after_line rest)))) (sym line_is)

  -- the step of this line stands between those before it and those after it
  steps_split : spec.steps operators (plan_lines text) ≡ steps ++ cons_option (spec.step_of operators line) (spec.steps operators (plan_lines (after_line rest)))
  steps_split =
      p.taken ∙ ap (λ ls. steps ++ spec.steps operators ls) (next_line rest some)
      ∙ ap (λ l. steps ++ cons_option (spec.step_of operators l) (spec.steps operators (plan_lines (after_line rest)))) (sym line_is)

  first_here : (fault : PlanFault) → spec.fault_of operators (number + 1) line ≡ Some fault → IsFirst (spec.faults operators (plan_lines text)) fault
  first_here fault here =
      let after = spec.faults_from (number + 1 + 1) operators (plan_lines (after_line rest)) in
      (after, faults_split ∙ ap (λ found. cons_option found after) here)

  -- a fault that is found here is the first
  pub fault_here : (A B : Type 0) (stop : Stop PlanFault) → IfFault {A = A} (Err stop) (λ fault. spec.fault_of operators (number + 1) line ≡ Some fault) → IfFault {A = B} (Err stop) (IsFirst (spec.faults operators (plan_lines text)))
  fault_here A B (stops.Fault fault) here = first_here fault here
  fault_here A B stops.NoMemory here = tt

  -- one line more
  pub passed_line : (after : List ℕ) → after ≡ after_line rest → spec.fault_of operators (number + 1) line ≡ None →
      (found : Option Step) → found ≡ spec.step_of operators line → IfSome found (λ step. step.cost ≤ 2147483647) →
      (new_steps : List Step) (new_total : ℕ) → new_steps ≡ steps ++ option_to_list found → new_total ≡ total + spec.total (option_to_list found) →
      Passed operators text (number + 1) new_steps new_total after
  passed_line after after_is none found found_is low new_steps new_total steps_are total_is = record {
    taken =
        steps_split
        ∙ ap (λ s. steps ++ cons_option s (spec.steps operators (plan_lines (after_line rest)))) (sym found_is)
        ∙ found_behind steps (spec.steps operators (plan_lines (after_line rest))) found
        ∙ ap (λ ss. ss ++ spec.steps operators (plan_lines (after_line rest))) (sym steps_are)
        ∙ ap (λ t. new_steps ++ spec.steps operators (plan_lines t)) (sym after_is);
    faultless =
        faults_split
        ∙ ap (λ found. cons_option found (spec.faults_from (number + 1 + 1) operators (plan_lines (after_line rest)))) none
        ∙ ap (λ t. spec.faults_from (number + 1 + 1) operators (plan_lines t)) (sym after_is);
    cost =
        total_is ∙ ap (λ n. n + spec.total (option_to_list found)) p.cost
        ∙ sym (sum_by-append (λ (step : Step). step.cost) steps (option_to_list found))
        ∙ ap spec.total (sym steps_are);
    small = omega (arith, p.small, total_is, small_found found low);
    room = omega (arith, p.room, shorter rest some, ap length after_is);
  }

-- ---- with the lines of the steps written

-- so many lines of a text are passed without a fault, and the lines of their steps stand behind what was written before
pub record Written (operators : List Operator) (text : List ℕ) (number total : ℕ) (rest before written : List ℕ) : Type 0 where
  pub steps : List Step
  pub passed : Passed operators text number steps total rest
  pub lines : written ≡ before ++ flat_map step_line steps

pub none_written : (operators : List Operator) (text before : List ℕ) → Written operators text 0 0 text before before
none_written operators text before = record {
  steps = [];
  passed = record { taken = refl; faultless = refl; cost = refl; small = omega arith; room = omega arith };
  lines = sym (append-nil before);
}

module _ (operators : List Operator) (text : List ℕ) (number total : ℕ) (rest before written : List ℕ) (w : Written operators text number total rest before written) (some : 1 ≤ length rest)
    (line : List ℕ) (line_is : line ≡ trimmed (first_line rest)) where
  pub written_fault : (A B : Type 0) (stop : Stop PlanFault) → IfFault {A = A} (Err stop) (λ fault. spec.fault_of operators (number + 1) line ≡ Some fault) → IfFault {A = B} (Err stop) (IsFirst (spec.faults operators (plan_lines text)))
  written_fault = fault_here operators text number w.steps total rest w.passed some line line_is

  pub written_line : (after : List ℕ) → after ≡ after_line rest → spec.fault_of operators (number + 1) line ≡ None →
      (found : Option Step) → found ≡ spec.step_of operators line → IfSome found (λ step. step.cost ≤ 2147483647) →
      (new_total : ℕ) → new_total ≡ total + spec.total (option_to_list found) →
      (new_written : List ℕ) → new_written ≡ written ++ flat_map step_line (option_to_list found) →
      Written operators text (number + 1) new_total after before new_written
  written_line after after_is none found found_is low new_total total_is new_written written_is =
      let found_lines = flat_map step_line (option_to_list found) in
      record {
        steps = w.steps ++ option_to_list found;
        passed = passed_line operators text number w.steps total rest w.passed some line line_is after after_is none found found_is low (w.steps ++ option_to_list found) new_total refl total_is;
        lines =
            written_is ∙ ap (λ old. old ++ found_lines) w.lines ∙ append_assoc before (flat_map step_line w.steps) found_lines
            ∙ ap (λ lines. before ++ lines) (sym (flat_map-append step_line w.steps (option_to_list found)));
      }

-- all lines of a text are passed
module _ (operators : List Operator) (text : List ℕ) (number total : ℕ) (before written : List ℕ) (w : Written operators text number total [] before written) where
  all_steps : w.steps ≡ spec.steps operators (plan_lines text)
  all_steps = sym (w.passed.taken ∙ append-nil w.steps)

  pub all_written : written ≡ before ++ flat_map step_line (spec.steps operators (plan_lines text))
  all_written = w.lines ∙ ap (λ steps. before ++ flat_map step_line steps) all_steps

  pub whole_total : total ≡ spec.total (spec.steps operators (plan_lines text))
  whole_total = w.passed.cost ∙ ap spec.total all_steps

  pub all_faultless : spec.faults operators (plan_lines text) ≡ []
  all_faultless = w.passed.faultless
