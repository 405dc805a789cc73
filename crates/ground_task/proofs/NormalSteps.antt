-- A normal task has the runs of its instances.
use Rattle.std.proofs.Common.{◌≡◌, Bool, true, false, not, ◌&&◌, cond, inl, inr, List, [], ◌∷◌, ◌++◌, take, refl, sym, ap, ◌∙◌, subst, nat_eq}
use Rattle.std.specs.Prelude.{filter, is_some}
use Rattle.std.specs.List.{list_any, list_all, flat_map, Contains}
use Rattle.std.specs.Cmp.Lexicographic.{pointwise}
use Rattle.std.proofs.lemmas.Bool.{cases_Bool, and_parts, and_from}
use Rattle.std.proofs.Math.Bool.{and-false, and_assoc}
use Rattle.planning.specs.Task.{State, IsFull, Takes, cost, successor}
use Rattle.runs.specs.Systems.{HasStep}
use Rattle.planning.specs.Plan.{system}
use Rattle.planning.specs.Same.{SameRuns, MeansTheSame}
use Rattle.planning.proofs.SameRuns.{means_the_same}
use Rattle.normal_task.specs.declared.task.AxiomRow.{AxiomRow as AxiomSchema}
use Rattle.normal_task.specs.declared.task.EffectRow.{EffectRow as EffectSchema}
use Rattle.normal_task.specs.declared.task.GroundAtom.{GroundAtom}
use Rattle.normal_task.specs.declared.task.Literal.{Literal}
use Rattle.normal_task.specs.declared.task.Literal.TheVariants.{Holds, Equal}
use Rattle.normal_task.specs.declared.task.Normal.{Normal}
use Rattle.normal_task.specs.Meaning.{atom_of, is_same_atom, Binding, objects_at, object_at, choices, steps_of, answers, are_met, derives, is_on, row_writes, value_of}
use Rattle.normal_task.specs.Meaning.{normal_task, Step}
use Rattle.normal_task.specs.Meaning as normal
use Rattle.ground_task.specs.declared.types.GoalRow.TheVariants.{Never, All}
use Rattle.ground_task.specs.Literals.{EffectRow, ActionRow, AxiomRow, holds, goal_holds, meaning}
use Rattle.ground_task.specs.Instances.{signed_atoms, condition_of, all_fit, effect_of, effects_of, action_of, is_instance, actions_of, axiom_of, axioms_of, instance_task}
use Rattle.lists.proofs.Items.{Among, among_contains, contains_among, among_map, map_source, among_filter, filter_among, same_any, any_kept, among_flat_map, flat_map_piece, any_flat_map, any_and}

-- ---- literal lists

-- a list of literals is true where its equalities are and its atoms are true or false as they must be
pub met_parts : (x f p n : Bool) → (x && (f && (p && n))) ≡ (f && ((x && p) && n))
met_parts true f p n = refl
met_parts false true p n = refl
met_parts false false p n = refl

pub met_negative : (x f p n : Bool) → (x && (f && (p && n))) ≡ (f && (p && (x && n)))
met_negative true f p n = refl
met_negative false true true n = refl
met_negative false true false n = refl
met_negative false false p n = refl

pub met : (full : State GroundAtom) (binding : Binding) (literals : List Literal) → are_met full binding literals ≡ (all_fit binding literals && holds full (condition_of binding literals))
met full binding [] = refl
met full binding (Holds true predicate places ∷ more) =
    let atom = atom_of predicate (objects_at binding places) in
    ap (λ b. full atom && b) (met full binding more)
    ∙ met_parts (full atom) (all_fit binding more) (list_all full (signed_atoms true binding more)) (list_all (λ a. not (full a)) (signed_atoms false binding more))
met full binding (Holds false predicate places ∷ more) =
    let atom = atom_of predicate (objects_at binding places) in
    ap (λ b. not (full atom) && b) (met full binding more)
    ∙ met_negative (not (full atom)) (all_fit binding more) (list_all full (signed_atoms true binding more)) (list_all (λ a. not (full a)) (signed_atoms false binding more))
met full binding (Equal positive left right ∷ more) =
    let same = answers positive (nat_eq (object_at binding left) (object_at binding right)) in
    ap (λ b. same && b) (met full binding more) ∙ sym (and_assoc same (all_fit binding more) (holds full (condition_of binding more)))

-- the same of a list whose equalities are settled
met_yes : (full : State GroundAtom) (binding : Binding) (literals : List Literal) → all_fit binding literals ≡ true → are_met full binding literals ≡ holds full (condition_of binding literals)
met_yes full binding literals fit = met full binding literals ∙ ap (λ b. b && holds full (condition_of binding literals)) fit

met_no : (full : State GroundAtom) (binding : Binding) (literals : List Literal) → all_fit binding literals ≡ false → are_met full binding literals ≡ false
met_no full binding literals out = met full binding literals ∙ ap (λ b. b && holds full (condition_of binding literals)) out

-- ---- effects and axioms

module _ (full : State GroundAtom) (atom : GroundAtom) where
  abbrev wrote : Bool → EffectRow GroundAtom → Bool
  wrote adds row = answers adds row.adds && (is_same_atom row.atom atom && holds full row.condition)

  row_written : (adds : Bool) (binding : Binding) (row : EffectSchema) → row_writes full adds binding atom row ≡ list_any (wrote adds) (effects_of binding row)
  row_written adds binding row =
      sym (any_and (answers adds row.adds) (λ objects. is_on full atom row (binding ++ objects)) (choices row.variables))
      ∙ any_kept (λ objects. all_fit (binding ++ objects) row.condition) (effect_of binding row) (λ objects. answers adds row.adds && is_on full atom row (binding ++ objects)) (wrote adds) (choices row.variables)
      (λ objects among fit. ap (λ b. answers adds row.adds && (is_same_atom (atom_of row.predicate (objects_at (binding ++ objects) row.places)) atom && b)) (met_yes full (binding ++ objects) row.condition fit))
      (λ objects among out.
      let here = met_no full (binding ++ objects) row.condition out in
      ap (λ b. answers adds row.adds && (is_same_atom (atom_of row.predicate (objects_at (binding ++ objects) row.places)) atom && b)) here
      ∙ ap (λ b. answers adds row.adds && b) (and-false (is_same_atom (atom_of row.predicate (objects_at (binding ++ objects) row.places)) atom))
      ∙ and-false (answers adds row.adds))

  rows_written : (adds : Bool) (binding : Binding) (rows : List EffectSchema) → normal.writes full adds rows binding atom ≡ list_any (wrote adds) (flat_map (effects_of binding) rows)
  rows_written adds binding rows =
      same_any (row_writes full adds binding atom) (λ row. list_any (wrote adds) (effects_of binding row)) rows (λ row among. row_written adds binding row)
      ∙ sym (any_flat_map (effects_of binding) (wrote adds) rows)

  abbrev given : AxiomRow GroundAtom → Bool
  given row = is_same_atom row.atom atom && holds full row.condition

  row_given : (row : AxiomSchema) → derives full atom row ≡ list_any given (axioms_of row)
  row_given row =
      sym (any_and (nat_eq row.predicate atom.predicate) (λ objects. pointwise nat_eq (take row.shown objects) atom.objects && are_met full objects row.condition) (choices row.parameters))
      ∙ any_kept (λ objects. all_fit objects row.condition) (axiom_of row) (λ objects. nat_eq row.predicate atom.predicate && (pointwise nat_eq (take row.shown objects) atom.objects && are_met full objects row.condition)) given (choices row.parameters)
      (λ objects among fit.
      sym (and_assoc (nat_eq row.predicate atom.predicate) (pointwise nat_eq (take row.shown objects) atom.objects) (are_met full objects row.condition))
      ∙ ap (λ b. (nat_eq row.predicate atom.predicate && pointwise nat_eq (take row.shown objects) atom.objects) && b) (met_yes full objects row.condition fit))
      (λ objects among out.
      ap (λ b. nat_eq row.predicate atom.predicate && (pointwise nat_eq (take row.shown objects) atom.objects && b)) (met_no full objects row.condition out)
      ∙ ap (λ b. nat_eq row.predicate atom.predicate && b) (and-false (pointwise nat_eq (take row.shown objects) atom.objects))
      ∙ and-false (nat_eq row.predicate atom.predicate))

  rows_given : (rows : List AxiomSchema) → list_any (derives full atom) rows ≡ list_any given (flat_map axioms_of rows)
  rows_given rows = same_any (derives full atom) (λ row. list_any given (axioms_of row)) rows (λ row among. row_given row) ∙ sym (any_flat_map axioms_of given rows)

-- ---- steps

-- the same values
abbrev pub Equal_states : State GroundAtom → State GroundAtom → Type 0
Equal_states state state' = (atom : GroundAtom) → state' atom ≡ state atom

module _ (task : Normal) where
  full_forth : (state state' full : State GroundAtom) → Equal_states state state' → IsFull (normal_task task) state full → IsFull (meaning (instance_task task)) state' full
  full_forth state state' full same is_full = record {
    basic = λ atom basic. is_full.basic atom basic ∙ sym (same atom);
    derived = λ atom derived. is_full.derived atom derived ∙ rows_given full atom task.axioms;
  }

  full_back : (state state' full : State GroundAtom) → Equal_states state state' → IsFull (meaning (instance_task task)) state' full → IsFull (normal_task task) state full
  full_back state state' full same is_full = record {
    basic = λ atom basic. is_full.basic atom basic ∙ same atom;
    derived = λ atom derived. is_full.derived atom derived ∙ sym (rows_given full atom task.axioms);
  }

  -- a step is a schema of the task with a choice of objects
  step_parts : (step : Step) → Contains (normal_task task).steps step → Among step.schema task.schemas × Among step.objects (choices step.schema.parameters)
  step_parts step of_task =
      let piece = flat_map_piece steps_of task.schemas step (among_contains (normal_task task).steps step of_task) in
      let from = map_source (λ objects. record { schema = piece.source; objects = objects }) (choices piece.source.parameters) step piece.inside in
      subst (λ (s : Step). Among s.schema task.schemas × Among s.objects (choices s.schema.parameters)) from.gives (piece.among, from.among)

  -- the step's instance
  abbrev action_for : Step → ActionRow GroundAtom
  action_for step = action_of task step.schema step.objects

  -- what a step leads to, and what its instance leads to
  same_next : (state state' full : State GroundAtom) → Equal_states state state' → (step : Step) →
      Equal_states (successor (normal_task task) state full step) (successor (meaning (instance_task task)) state' full (action_for step))
  same_next state state' full same step atom =
      let added = rows_written full atom true step.objects step.schema.effects in
      let deleted = rows_written full atom false step.objects step.schema.effects in
      let before = same atom in
      cc (added, deleted, before)

  forth : (state state' : State GroundAtom) → Equal_states state state' → (step : Step) (next : State GroundAtom) → Takes (normal_task task) state step next →
      HasStep (system (meaning (instance_task task))) state' (normal.name_of task step) (cost (normal_task task) step) (Equal_states next)
  forth state state' same step next takes =
      let schema = step.schema in
      let objects = step.objects in
      let parts_of = step_parts step takes.of_task in
      let parts = and_parts (all_fit objects schema.condition) (holds takes.full (condition_of objects schema.condition)) (sym (met takes.full objects schema.condition) ∙ takes.applicable) in
      let fits' : is_instance task schema objects ≡ true = and_from (all_fit objects schema.condition) (is_some (value_of task objects schema.cost)) parts.0 takes.costs in
      record {
        step = action_for step;
        next = successor (meaning (instance_task task)) state' takes.full (action_for step);
        takes = record {
          of_task = contains_among (instance_task task).actions (action_for step)
              (among_flat_map (actions_of task) schema (action_for step) task.schemas parts_of.0
              (among_map (action_of task schema) objects (filter (is_instance task schema) (choices schema.parameters)) (among_filter (is_instance task schema) objects (choices schema.parameters) parts_of.1 fits')));
          full = takes.full;
          is_full = full_forth state state' takes.full same takes.is_full;
          applicable = parts.1;
          costs = refl;
          follows = λ atom. refl;
        };
        same_name = refl;
        same_cost = refl;
        demand = λ atom. same_next state state' takes.full same step atom ∙ sym (takes.follows atom);
      }

  back : (state' state : State GroundAtom) → Equal_states state state' → (row : ActionRow GroundAtom) (next' : State GroundAtom) → Takes (meaning (instance_task task)) state' row next' →
      HasStep (system (normal_task task)) state row.name row.cost (λ next. Equal_states next next')
  back state' state same row next' takes =
      let piece = flat_map_piece (actions_of task) task.schemas row (among_contains (instance_task task).actions row takes.of_task) in
      let schema = piece.source in
      let from = map_source (action_of task schema) (filter (is_instance task schema) (choices schema.parameters)) row piece.inside in
      let objects = from.source in
      let found = filter_among (is_instance task schema) objects (choices schema.parameters) from.among in
      let parts = and_parts (all_fit objects schema.condition) (is_some (value_of task objects schema.cost)) found.1 in
      let step : Step = record { schema = schema; objects = objects } in
      let held : holds takes.full (condition_of objects schema.condition) ≡ true = ap (λ (r : ActionRow GroundAtom). holds takes.full r.condition) from.gives ∙ takes.applicable in
      record {
        step = step;
        next = successor (normal_task task) state takes.full step;
        takes = record {
          of_task = contains_among (normal_task task).steps step (among_flat_map steps_of schema step task.schemas piece.among (among_map (λ os. record { schema = schema; objects = os }) objects (choices schema.parameters) found.0));
          full = takes.full;
          is_full = full_back state state' takes.full same takes.is_full;
          applicable = met takes.full objects schema.condition ∙ and_from (all_fit objects schema.condition) (holds takes.full (condition_of objects schema.condition)) parts.0 held;
          costs = parts.1;
          follows = λ atom. refl;
        };
        same_name = ap (λ (r : ActionRow GroundAtom). r.name) from.gives;
        same_cost = ap (λ (r : ActionRow GroundAtom). r.cost) from.gives;
        demand = λ atom. takes.follows atom ∙ ap (λ (r : ActionRow GroundAtom). successor (meaning (instance_task task)) state' takes.full r atom) (sym from.gives) ∙ same_next state state' takes.full same step atom;
      }

  -- ---- the goal

  goal_is : (full : State GroundAtom) → goal_holds full (instance_task task).goal ≡ are_met full [] task.goal
  goal_is full = elim (cases_Bool (all_fit [] task.goal)) [
    | inl fit ↦ ap (λ b. goal_holds full (cond b (All (condition_of [] task.goal)) Never)) fit ∙ sym (met_yes full [] task.goal fit)
    | inr out ↦ ap (λ b. goal_holds full (cond b (All (condition_of [] task.goal)) Never)) out ∙ sym (met_no full [] task.goal out)
  ]

  same_runs : SameRuns (normal_task task) (meaning (instance_task task)) Equal_states
  same_runs = record {
    forth = record {
      starts = λ atom. refl;
      steps = forth;
      goals = λ state state' same meets. record { full = meets.full; is_full = full_forth state state' meets.full same meets.is_full; holding = goal_is meets.full ∙ meets.holding };
    };
    back = record {
      starts = λ atom. refl;
      steps = back;
      goals = λ state' state same meets. record { full = meets.full; is_full = full_back state state' meets.full same meets.is_full; holding = sym (goal_is meets.full) ∙ meets.holding };
    };
  }

  pub same_meaning : MeansTheSame (normal_task task) (meaning (instance_task task)) Equal_states
  same_meaning =
      means_the_same (normal_task task) (meaning (instance_task task)) Equal_states same_runs
      (λ s t same step next takes next' same' idle atom. sym (same' atom) ∙ idle atom ∙ same atom)
      (λ t s same step next' takes next same' idle atom. same' atom ∙ idle atom ∙ sym (same atom))
