-- From the steps of a normal task to the operators of a task.
use Rattle.std.proofs.Common.{◌≡◌, ℕ, true, List, filter, Option, Some, None, refl, sym, ap, ◌∙◌, subst}
use Rattle.std.specs.Prelude.{is_some, unwrap_or}
use Rattle.std.specs.List.{Contains, flat_map}
use Rattle.std.proofs.lemmas.Bool.{and_parts}
use Rattle.std.proofs.lemmas.List.Sorted.{Contains-permutation, IsPermutation-sym}
use Rattle.lists.proofs.Members.{map_member, member_map, filter_member, flat_map_member, member_flat_map, zip_source}
use Rattle.pddl_syntax.specs.Words.{Name}
use Rattle.normal_task.specs.declared.task.GroundAtom.{GroundAtom}
use Rattle.normal_task.specs.declared.task.Normal.{Normal}
use Rattle.normal_task.specs.Meaning.{Step, normal_task, name_of, value_of, steps_of, choices}
use Rattle.normal_task.specs.TellCosts.{NamesTellCosts as StepsTellCosts}
use Rattle.ground_task.specs.declared.types.Ground.{Ground}
use Rattle.ground_task.specs.GroundTask.{ground_task}
use Rattle.ground_task.specs.Instances.{instance_task, is_instance, action_of, actions_of, all_fit, static_settling, IsGroundTask}
use Rattle.ground_task.specs.Literals.{ActionRow}
use Rattle.ground_task.specs.Settled.{Settling, is_open, kept_action, kept_actions}
use Rattle.reached_task.specs.declared.types.Reached.{Reached}
use Rattle.reached_task.specs.declared.types.ReachedAction.{ReachedAction}
use Rattle.reached_task.specs.ReachedTask.{reached_task, action_row}
use Rattle.reached_task.specs.Reachable.{IsReachedTask, numbering}
use Rattle.fdr_effects.specs.Places.{Cover}
use Rattle.fdr_effects.specs.Split.{split}
use Rattle.fdr_effects.specs.Effects.{effects_of}
use Rattle.fdr_encoder.specs.Operators.{simplified, operators_at}
use Rattle.fdr_encoder.specs.Encoding.{IsSameOperator, IsEncoding}
use Rattle.sas_task.specs.declared.parts.Operator.{Operator}
use Rattle.sas_task.specs.declared.parts.Pair.{Pair}
use Rattle.sas_task.specs.Task.{Task}
use Rattle.sas_task.specs.Orders.{operator_cmp}
use Rattle.sas_task.specs.TotalOrders.{operator_total}
use Rattle.sas_task.proofs.Sorted.{arranged_member}
use Rattle.sas_restriction.specs.Choice.{operator_stays}
use Rattle.sas_restriction.specs.Restriction.{new_operator, new_operators}
use Rattle.task_simplifier.specs.Projection.{projected, nothing_twice, project_to, kept_in}
use Rattle.plan_backmap.specs.Solutions.{NamesTellCosts}
use Rattle.run_task.specs.OperatorCosts.{InEncodings, InRestrictions, InProjections}
use Rattle.run_task.proofs.Told.{Tells, IsFrom, tell_too}

abbrev row_name : {A : Type 0} → ActionRow A → Name
row_name row = row.name

abbrev row_cost : {A : Type 0} → ActionRow A → Option ℕ
row_cost row = Some row.cost

abbrev action_name : ReachedAction → Name
action_name action = action.name

abbrev action_cost : ReachedAction → Option ℕ
action_cost action = Some action.cost

abbrev operator_name : Operator → Name
operator_name operator = operator.name

abbrev operator_cost : Operator → Option ℕ
operator_cost operator = Some operator.cost

some_same : (a b : ℕ) → Some a ≡ Some b → a ≡ b
some_same a b same = cc (same)

-- ---- instances

known_value : (value : Option ℕ) → is_some value ≡ true → Some (unwrap_or value 0) ≡ value
known_value None is = absurd cc
known_value (Some n) is = refl

module _ (task : Normal) where
  instance_from : (row : ActionRow GroundAtom) → Contains (instance_task task).actions row → IsFrom (name_of task) (λ (s : Step). value_of task s.objects s.schema.cost) (normal_task task).steps (row_name row) (row_cost row)
  instance_from row in' =
      let s = flat_map_member (actions_of task) task.schemas row in' in
      let o = map_member (action_of task s.0) (filter (is_instance task s.0) (choices s.0.parameters)) row s.2 in
      let f = filter_member (is_instance task s.0) (choices s.0.parameters) o.0 o.1 in
      let has = (and_parts (all_fit o.0 s.0.condition) (is_some (value_of task o.0 s.0.cost)) f.1).1 in
      let taken : Step = record { schema = s.0; objects = o.0 } in (
        taken,
        member_flat_map steps_of task.schemas s.0 taken s.1 (member_map (λ (objects : List ℕ). let it : Step = record { schema = s.0; objects = objects } in it) (choices s.0.parameters) o.0 f.0),
        sym (ap (λ (r : ActionRow GroundAtom). r.name) o.2),
        sym (ap (λ (r : ActionRow GroundAtom). Some r.cost) o.2) ∙ known_value (value_of task o.0 s.0.cost) has,
      )

-- ---- actions whose conditions can hold

kept_from : {A B : Type 0} (by : Settling A B) (rows : List (ActionRow A)) (row : ActionRow B) → Contains (kept_actions by rows) row → IsFrom {A = ActionRow A} row_name row_cost rows (row_name row) (row_cost row)
kept_from by rows row in' =
    let m = map_member (kept_action by) (filter (λ r. is_open by r.condition) rows) row in' in
    let f = filter_member (λ r. is_open by r.condition) rows m.0 m.1 in
    (m.0, f.0, sym (ap row_name m.2), sym (ap row_cost m.2))

module _ (task : Normal) (grounded : Ground) (reached : Reached) (is_ground : IsGroundTask task grounded) (is_reached : IsReachedTask grounded reached) (tells : StepsTellCosts (normal_task task)) where
  instances_tell : Tells {A = ActionRow GroundAtom} row_name row_cost (instance_task task).actions
  instances_tell = tell_too (name_of task) (λ (s : Step). value_of task s.objects s.schema.cost) row_name row_cost (normal_task task).steps (instance_task task).actions (instance_from task) tells

  ground_tell : Tells {A = ActionRow GroundAtom} row_name row_cost (ground_task grounded).actions
  ground_tell =
      tell_too row_name row_cost row_name row_cost (instance_task task).actions (ground_task grounded).actions
      (λ row in'. kept_from (static_settling task) (instance_task task).actions row
      (Contains-permutation (ground_task grounded).actions (kept_actions (static_settling task) (instance_task task).actions) row
      (IsPermutation-sym (kept_actions (static_settling task) (instance_task task).actions) (ground_task grounded).actions is_ground.actions) in'))
      instances_tell

  reached_rows_tell : Tells {A = ActionRow ℕ} row_name row_cost (reached_task reached).actions
  reached_rows_tell =
      tell_too row_name row_cost row_name row_cost (ground_task grounded).actions (reached_task reached).actions
      (λ row in'. kept_from (numbering is_reached.atoms) (ground_task grounded).actions row (subst (λ (rows : List (ActionRow ℕ)). Contains rows row) is_reached.is.actions in'))
      ground_tell

  reached_tell : Tells action_name action_cost reached.actions
  reached_tell =
      tell_too row_name row_cost action_name action_cost (reached_task reached).actions reached.actions
      (λ action in'. (action_row action, member_map action_row reached.actions action in', refl, refl)) reached_rows_tell

  -- ---- operators

  module _ (cover : Cover) (mutexes : List (List ℕ)) (layers : List ℕ) (encoded : Task) (encoding : IsEncoding cover mutexes layers reached encoded) where
    operator_from : (o : Operator) → Contains encoded.operators o → IsFrom action_name action_cost reached.actions (operator_name o) (operator_cost o)
    operator_from o in' =
        let ops = encoding.operators in
        let raw = zip_source IsSameOperator ops.ordered encoded.operators o ops.each in' in
        let listed = Contains-permutation ops.ordered (flat_map (operators_at cover) reached.actions) raw.0 (IsPermutation-sym (flat_map (operators_at cover) reached.actions) ops.ordered ops.same) raw.1 in
        let a = flat_map_member (operators_at cover) reached.actions raw.0 listed in
        let m = map_member (λ (conditions : List Pair). let it : Operator = record { name = a.0.name; conditions = conditions; effects = simplified cover conditions (effects_of cover a.0.effects); cost = a.0.cost } in it) (split cover a.0.condition) raw.0 a.2 in
        (a.0, a.1, raw.2.name ∙ sym (ap operator_name m.2), ap Some raw.2.cost ∙ sym (ap operator_cost m.2))

    pub encoded_tell : NamesTellCosts encoded.operators
    encoded_tell a b in-a in-b same =
        some_same a.cost b.cost (tell_too action_name action_cost operator_name operator_cost reached.actions encoded.operators operator_from reached_tell a b in-a in-b same)

-- ---- what is left of operators

pub in_restrictions : InRestrictions
in_restrictions choice old new restricts tells =
    tell_too operator_name (λ (o : Operator). o.cost) operator_name (λ (o : Operator). o.cost) old.operators new.operators
    (λ o in'. let from = restricts.operators o in' in (from.0, from.1, from.3.same_name, from.3.same_cost)) tells

pub in_projections : InProjections
in_projections encoded task is tells =
    let C = projected (kept_in is.kept) encoded in
    subst (λ (t : Task). NamesTellCosts t.operators) (sym is.same)
    (tell_too operator_name (λ (o : Operator). o.cost) operator_name (λ (o : Operator). o.cost) encoded.operators (project_to (kept_in is.kept) encoded).operators
    (λ o in'.
    let m = map_member (new_operator nothing_twice C) (filter (operator_stays C) encoded.operators) o (arranged_member operator_cmp operator_total nothing_twice.operators (new_operators nothing_twice C encoded) o in') in
    let f = filter_member (operator_stays C) encoded.operators m.0 m.1 in
    (m.0, f.0, sym (ap operator_name m.2), sym (ap (λ (o : Operator). o.cost) m.2))) tells)

pub in_encodings : InEncodings
in_encodings task grounded reached cover mutexes layers encoded tells is_ground is_reached encoding = encoded_tell task grounded reached is_ground is_reached tells cover mutexes layers encoded encoding
