-- At which lines a fault can stand, and that it doesn't rest on the lines after it.
use Rattle.std.proofs.Common.{◌≡◌, ℕ, ◌+◌, ◌<◌, ◌≤◌, Bool, false, cond, eqb, inl, inr, List, [], ◌∷◌, ◌++◌, length, Some, None, Ok, Err, refl, sym, ap, ◌∙◌, subst, append-nil, arith}
use Rattle.std.specs.List.{onto_first}
use Rattle.std.proofs.lemmas.Bool.{cases_Bool, cases_lt}
use Rattle.std.proofs.lemmas.Option.{none-some, same_Some}
use Rattle.std.proofs.lemmas.List.Splits.{slice_split-cons_yes, slice_split-cons_no, length-slice_split}
use Rattle.std.proofs.lemmas.List.Sums.{sum_by-cons}
use Rattle.sas_task.specs.declared.parts.Pair.{Pair}
use Rattle.sas_task.specs.declared.parts.Variable.{Variable}
use Rattle.sas_task.specs.declared.parts.Group.{Group}
use Rattle.sas_task.specs.declared.parts.Operator.{Operator}
use Rattle.sas_task.specs.Output.{Line}
use Rattle.sas_task.specs.Task.{Task, of_parts}
use Rattle.sas_reader.specs.declared.fault.SasFault.{SasFault}
use Rattle.sas_reader.specs.declared.fault.SasPlace.TheVariants as places
use Rattle.sas_reader.specs.Contexts.{so_far}
use Rattle.sas_reader.specs.Forms.{◌>>◌, Unread, Reading, unread, pieces_of, section, end}
use Rattle.sas_reader.proofs.FirstLines.{GoesOn, Begins, with_more, HasLocalFaults, begins_then, next_local, then_faults, section_local, end_faults, faults_given}
use Rattle.sas_reader.specs.Operators.{operators}
use Rattle.sas_reader.specs.Rules.{rules}
use Rattle.sas_reader.specs.Sections.{version, metric, variables, groups, state, goal}
use Rattle.sas_reader.proofs.FirstLinesOfSections.{version_begins, version_local, metric_local, variables_local, groups_local, state_local, goal_local, operators_local, rules_local}
use Rattle.sas_reader.specs.Text.{task, fault_of, line_fault, whole_lines}
use Rattle.sas_reader.proofs.WholeText.{to_end, to_rules, to_operators, to_goal, to_state, to_groups, to_variables}

-- ---- the whole text

end_is : (t : Task) → HasLocalFaults (to_end t)
end_is t = faults_given (section places.End >> end) t (then_faults (section places.End) (λ _. end) (section_local places.End) (λ _. end_faults))

module _ (m : Bool) (vs : List Variable) where
  rules_are : (gs : List Group) (st : List ℕ) (g : List Pair) (os : List Operator) → HasLocalFaults (to_rules m vs gs st g os)
  rules_are gs st g os =
      then_faults (section places.Rules >> rules vs st) (λ rs. to_end (of_parts m vs gs st g os rs)) (next_local (section places.Rules) (rules vs st) (section_local places.Rules) (rules_local vs st)) (λ rs. end_is (of_parts m vs gs st g os rs))

  operators_are : (gs : List Group) (st : List ℕ) (g : List Pair) → HasLocalFaults (to_operators m vs gs st g)
  operators_are gs st g =
      then_faults (section places.Operators >> operators m (so_far vs [])) (to_rules m vs gs st g)
      (next_local (section places.Operators) (operators m (so_far vs [])) (section_local places.Operators) (operators_local m (so_far vs []))) (rules_are gs st g)

  goal_is : (gs : List Group) (st : List ℕ) → HasLocalFaults (to_goal m vs gs st)
  goal_is gs st =
      then_faults (section places.Goal >> goal (so_far vs [])) (to_operators m vs gs st) (next_local (section places.Goal) (goal (so_far vs [])) (section_local places.Goal) (goal_local (so_far vs []))) (operators_are gs st)

  state_is : (gs : List Group) → HasLocalFaults (to_state m vs gs)
  state_is gs = then_faults (section places.State >> state (so_far vs [])) (to_goal m vs gs) (next_local (section places.State) (state (so_far vs [])) (section_local places.State) (state_local (so_far vs []))) (goal_is gs)

  groups_are : HasLocalFaults (to_groups m vs)
  groups_are = then_faults (section places.Groups >> groups (so_far vs [])) (to_state m vs) (next_local (section places.Groups) (groups (so_far vs [])) (section_local places.Groups) (groups_local (so_far vs []))) state_is

variables_are : (m : Bool) → HasLocalFaults (to_variables m)
variables_are m = then_faults (section places.Variables >> variables) (to_groups m) (next_local (section places.Variables) variables (section_local places.Variables) variables_local) (groups_are m)

task_faults : HasLocalFaults task
unfolding task
task_faults =
    then_faults ((version >> section places.Metric) >> metric) to_variables
    (next_local (version >> section places.Metric) metric (next_local version (section places.Metric) version_local (section_local places.Metric)) metric_local) variables_are

task_begins : Begins task
unfolding task
task_begins =
    begins_then ((version >> section places.Metric) >> metric) to_variables
    (begins_then (version >> section places.Metric) (λ _. metric) (begins_then version (λ _. section places.Metric) version_begins (λ _. (section_local places.Metric).advances)) (λ _. metric_local.advances))
    (λ m. (variables_are m).advances)

-- ---- its lines

some_piece : (bytes : List ℕ) → 0 < length (pieces_of 10 bytes)
some_piece bytes = omega (arith, length-slice_split (λ b. eqb b 10) bytes)

-- the whole lines of the beginning of a text are pieces of the text
record IsCut (front : List ℕ) : Type 0 where
  lines : List Line
  rest : List ℕ
  count : length lines ≡ whole_lines front
  is : (more : List ℕ) → pieces_of 10 (front ++ more) ≡ lines ++ pieces_of 10 (rest ++ more)

cut : (front : List ℕ) → IsCut front
cut [] = record { lines = []; rest = []; count = refl; is = λ more. refl }
cut (b ∷ front) =
    let later = cut front in
    let next : whole_lines (b ∷ front) ≡ cond (eqb b 10) 1 0 + whole_lines front = sum_by-cons (λ b. cond (eqb b 10) 1 0) b front in
    elim (cases_Bool (eqb b 10)) [
      | inl feed ↦ record {
        lines = [] ∷ later.lines;
        rest = later.rest;
        count = let one : ◌≡◌ {A = ℕ} (cond (eqb b 10) 1 0) 1 = ap (λ (t : Bool). cond t 1 0) feed in omega (arith, later.count, next, one);
        is = λ more. slice_split-cons_yes (λ b. eqb b 10) b (front ++ more) feed ∙ ap (λ l. [] ∷ l) (later.is more);
      }
      | inr other ↦ let none : ◌≡◌ {A = ℕ} (cond (eqb b 10) 1 0) 0 = ap (λ (t : Bool). cond t 1 0) other in onto b front other later.lines later.rest (omega (arith, later.count, next, none)) later.is
    ]
  where
    onto : (b : ℕ) (front : List ℕ) → eqb b 10 ≡ false → (lines : List Line) (rest : List ℕ) → length lines ≡ whole_lines (b ∷ front) → ((more : List ℕ) → pieces_of 10 (front ++ more) ≡ lines ++ pieces_of 10 (rest ++ more)) → IsCut (b ∷ front)
    onto b front other [] rest count is = record {
      lines = [];
      rest = b ∷ rest;
      count = count;
      is = λ more. slice_split-cons_no (λ b. eqb b 10) b (front ++ more) other ∙ ap (onto_first b) (is more) ∙ sym (slice_split-cons_no (λ b. eqb b 10) b (rest ++ more) other);
    }
    onto b front other (l ∷ lines) rest count is = record {
      lines = (b ∷ l) ∷ lines;
      rest = rest;
      count = count;
      is = λ more. slice_split-cons_no (λ b. eqb b 10) b (front ++ more) other ∙ ap (onto_first b) (is more);
    }

-- ---- its fault

faulty : (r : Reading Task) (fault : SasFault) → fault_of r ≡ Some fault → r ≡ Err fault
faulty (Ok read) fault is = absurd cc
faulty (Err first) fault is = ap Err (same_Some first fault is)

pub fault_within : (bytes : List ℕ) (fault : SasFault) → line_fault bytes ≡ Some fault → (1 ≤ fault.line) × (fault.line ≤ whole_lines bytes + 1)
fault_within bytes fault is =
    let on : GoesOn {A = Task} 1 (unread bytes) (Err fault) = subst (GoesOn 1 (unread bytes)) (faulty (task (unread bytes)) fault is) (task_begins (unread bytes) (some_piece bytes)) in
    (on.0, omega (arith, on.1, length-slice_split (λ b. eqb b 10) bytes))

pub same_fault : (front one other : List ℕ) (fault : SasFault) → line_fault (front ++ one) ≡ Some fault → fault.line ≤ whole_lines front → line_fault (front ++ other) ≡ Some fault
same_fault front one other fault is low =
    let c = cut front in
    let begun : List Line → Unread = λ pieces. record { place = places.Version; begun = 0; words = []; pieces = pieces } in
    let first : unread (front ++ one) ≡ with_more (begun c.lines) (pieces_of 10 (c.rest ++ one)) = ap begun (c.is one) in
    let second : unread (front ++ other) ≡ with_more (begun c.lines) (pieces_of 10 (c.rest ++ other)) = ap begun (c.is other) in
    let told = sym (ap task first) ∙ faulty (task (unread (front ++ one))) fault is in
    let again = task_faults.faults (begun c.lines) (pieces_of 10 (c.rest ++ one)) (pieces_of 10 (c.rest ++ other)) (some_piece (c.rest ++ one)) (some_piece (c.rest ++ other)) fault told (omega (arith, low, c.count)) in
    ap fault_of (ap task second ∙ again)

-- a text that begins with the lines up to a fault has one
pub no_task : (front more : List ℕ) (fault : SasFault) → line_fault front ≡ Some fault → fault.line ≤ whole_lines front → line_fault (front ++ more) ≡ None → ⊥
no_task front more fault is low none =
    none-some fault (sym none ∙ same_fault front [] more fault (ap line_fault (append-nil front) ∙ is) low)

-- what stands before the first line that breaks its rule has a fault only at its end
pub fault_at_end : (front more : List ℕ) (fault own : SasFault) → line_fault (front ++ more) ≡ Some fault → whole_lines front < fault.line → line_fault front ≡ Some own → own.line ≡ whole_lines front + 1
fault_at_end front more fault own is later told =
    elim (cases_lt (whole_lines front) own.line) [
      | inl high ↦ omega (arith, high, (fault_within front own told).1)
      | inr low ↦
          let same : own ≡ fault = same_Some own fault (sym (same_fault front [] more own (ap line_fault (append-nil front) ∙ told) low) ∙ is) in
          absurd (omega (arith, low, later, ap (λ (f : SasFault). f.line) same))
    ]
