-- An encoding simulates the reached task both ways.
use Rattle.std.proofs.Common.{Option, Some, None, ◌≡◌, ◌&&◌, ◌||◌, ℕ, ◌<◌, ◌≤◌, true, false, not, eqb, List, [], ◌∷◌, map, length, get_or, refl, sym, ap, ◌∙◌, subst, inl, inr, arith}
use Rattle.std.specs.Option.{option_map_or}
use Rattle.std.specs.List.{Contains, All, filter, range_with_len}
use Rattle.std.proofs.Math.Bool.{and-true}
use Rattle.std.proofs.lemmas.Bool.{cases_Bool, cases_lt, cond-true, cond-false, eqb-true, and_parts, both_ways, false_from_ne_true, false≢true}
use Rattle.std.proofs.lemmas.List.Elements.{All-contains}
use Rattle.std.proofs.lemmas.List.FromFn.{length-map-range_with_len, get_or-map-range_with_len}
use Rattle.std.proofs.lemmas.List.Sorted.{Contains-permutation, IsPermutation-sym}
use Rattle.std.proofs.lemmas.List.Sums.{prefix_len-le-length, passes_at_first}
use Rattle.runs.specs.Runs.{Leads}
use Rattle.runs.specs.Systems.{HasStep, IsFollowed}
use Rattle.runs.proofs.Systems.{reached_more, run_follows, state_follows}
use Rattle.lists.specs.Members.{is_among}
use Rattle.sas_task.specs.declared.parts.Pair.{Pair}
use Rattle.sas_task.specs.declared.parts.Group.{Group}
use Rattle.sas_task.specs.declared.parts.Effect.{Effect}
use Rattle.sas_task.specs.declared.parts.Operator.{Operator}
use Rattle.sas_task.specs.Task.{Task}
use Rattle.sas_task.specs.Valid.{IsValid, layer_of}
use Rattle.sas_task.specs.Values.{all_hold, values}
use Rattle.sas_task.specs.Solution.{Step, IsApplicable, IsReachable as IsReachableVector, MeetsGoal as MeetsTaskGoal, NeverDisagrees, cost_in, system as solutions, changing_system}
use Rattle.sas_task.specs.Keeps.{AtMostOne as AtMostOnePair}
use Rattle.lists.proofs.Members.{flat_map_member, range_member, all_from_members, any_member, member_map, map_member, filter_member}
use Rattle.sas_task.proofs.Successors.{Lists, Carries, successor_lists, lists_successor, carried_agrees}
use Rattle.sas_task.proofs.States.{reachable_is_state}
use Rattle.ground_task.specs.Literals.{ActionRow, LiteralTask, holds, initial, meaning}
use Rattle.planning.specs.Task.{State, IsFull, Takes, TakesBusy, IsIdle, successor}
use Rattle.planning.specs.Plan.{IsReachable, MeetsGoal, system as plans, busy_system}
use Rattle.reached_task.specs.declared.types.Reached.{Reached}
use Rattle.reached_task.specs.declared.types.ReachedAction.{ReachedAction}
use Rattle.reached_task.specs.declared.types.ReachedEffect.{ReachedEffect}
use Rattle.reached_task.specs.ReachedTask.{is_derived, action_row, reached_task}
use Rattle.sas_task.specs.Pairs.{pair}
use Rattle.fdr_effects.specs.Places.{Cover, set_of, first_place, last_value, value_in}
use Rattle.fdr_effects.specs.Effects.{effects_of}
use Rattle.fdr_encoder.specs.Operators.{simplified}
use Rattle.reached_task.specs.Lawful.{IsLawfulEffect, IsLawfulAction, IsLawful}
use Rattle.fdr_effects.specs.Groups.{is_groups, group_of, groups_of}
use Rattle.fdr_encoder.specs.Encoding.{IsSameOperator, IsEncoding}
use Rattle.reached_task.specs.Exclusive.{IsExclusive}
use Rattle.fdr_encoder.specs.Covers.{MakesVariables, IsBasicGroup}
use Rattle.fdr_encoder.specs.Simulates.{Shows, Correspond, Simulates}
use Rattle.fdr_effects.proofs.Sets.{has_member, place_of_true, true_at_place, same_place}
use Rattle.fdr_encoder.proofs.After.{adds_fact, deletes_fact, is_added, is_deleted, after, successor_is}
use Rattle.fdr_effects.proofs.Placed.{AreExclusive}
use Rattle.fdr_encoder.proofs.SplitHolds.{split_on, split_back, split_pairs}
use Rattle.fdr_encoder.proofs.OneStep.{IsPlaced, effect_from, sets, moves}
use Rattle.fdr_encoder.proofs.Simplified.{Drives, IsPlain, drives_simplified, below_simplified}
use Rattle.fdr_encoder.proofs.Parts.{operator_with, within, start_at, start_last, last_variable, layer_last, operator_from, operator_for}
use Rattle.fdr_encoder.proofs.Standing.{exclusive_full, action_placed, stays_plain, starts_plain, literals_stand}
use Rattle.fdr_encoder.proofs.ValuesShow.{shown, shown_low, shown_past, read, read_full, values_show, goal_meets}

module _ (reached : Reached) (lawful : IsLawful reached) (cover : Cover) (ok : MakesVariables reached cover) (mutexes : List (List ℕ)) (are-groups : All (IsBasicGroup reached) mutexes) (sets-exclusive : All (IsExclusive reached) cover) (groups-exclusive : All (IsExclusive reached) mutexes) (layers : List ℕ) (task : Task) (encoding : IsEncoding cover mutexes layers reached task) (valid : IsValid task) where
  abbrev n : ℕ
  n = length cover

  abbrev size : ℕ
  size = length task.variables

  abbrev T : LiteralTask ℕ
  T = reached_task reached

  abbrev show : State ℕ → ℕ → ℕ
  show = shown reached lawful cover ok mutexes layers task encoding valid

  show_low : (state : State ℕ) (var : ℕ) → var < n → show state var ≡ value_in cover state var
  show_low = shown_low reached lawful cover ok mutexes layers task encoding valid

  show_past : (state : State ℕ) (var : ℕ) → n ≤ var → show state var ≡ 1
  show_past = shown_past reached lawful cover ok mutexes layers task encoding valid

  lawful_action : (a : ReachedAction) → Contains reached.actions a → IsLawfulAction reached a
  lawful_action a in' = All-contains (IsLawfulAction reached) reached.actions a lawful.actions in'

  -- a reached state has no derived fact
  leads_plain : (rows : List (ActionRow ℕ)) (from to : State ℕ) → ((f : ℕ) → is_derived reached.facts f ≡ true → from f ≡ false) → Leads (Takes (meaning T)) from rows to → (f : ℕ) → is_derived reached.facts f ≡ true → to f ≡ false
  leads_plain [] from to plain leads = λ f is. ap (λ (s : State ℕ). s f) leads ∙ plain f is
  leads_plain (row ∷ rows) from to plain leads =
      let step = leads.1 in
      let a = map_member action_row reached.actions row step.of_task in
      leads_plain rows leads.0 to (λ f is.
      step.follows f ∙ ap (λ (r : ActionRow ℕ). successor (meaning T) from step.full r f) (sym a.2) ∙ successor_is reached step.full from a.0 f ∙ stays_plain reached cover ok from step.full plain a.0 (lawful_action a.0 a.1) f is) leads.2

  plain_of : (state : State ℕ) → IsReachable (meaning T) state → (f : ℕ) → is_derived reached.facts f ≡ true → state f ≡ false
  plain_of state is = leads_plain is.0 (initial T) state (starts_plain reached cover ok lawful) is.1

  abbrev Related : State ℕ → List ℕ → Type 0
  Related = Correspond cover reached task

  -- the vector has the values that the state shows, the goal's too
  lists_of : (state : State ℕ) (vector : List ℕ) → Related state vector → Lists size (show state) vector
  lists_of state vector c =
      let is = reachable_is_state task valid vector c.vector_reached in
      record {
        count = is.one_value;
        at = λ var below. elim (cases_lt var n) [
          | inl low ↦ c.shows var low ∙ sym (show_low state var low)
          | inr past ↦
              let last = last_variable cover mutexes layers reached task encoding var past below in
              is.defaults var _ (ap (layer_of task) last.1 ∙ layer_last cover mutexes layers reached task encoding last.0) below
              ∙ ap (λ v. get_or task.state v 0) last.1
              ∙ start_last cover mutexes layers reached task encoding last.0
              ∙ sym (show_past state var past)
        ];
      }

  one_state : (state : State ℕ) → IsReachable (meaning T) state → AreExclusive cover state
  one_state state is var below = sets-exclusive var [] below state is

  low_of : (state : State ℕ) (vector : List ℕ) → Lists size (show state) vector → Shows cover state vector
  low_of state vector lists var low = lists.at var (within cover mutexes layers reached task encoding var low) ∙ show_low state var low

  small_place : (state : State ℕ) (var : ℕ) → value_in cover state var ≤ last_value cover var
  small_place state var = prefix_len-le-length (λ f. not (state f)) (set_of cover var)

  -- a related state with its full facts
  module _ (state : State ℕ) (vector : List ℕ) (related : Related state vector) (full : State ℕ) (is-full : IsFull (meaning T) state full) where
    one_full : AreExclusive cover full
    one_full = exclusive_full reached cover ok state full (one_state state related.state_reached) is-full.basic

    shows_full : Shows cover full (values task vector)
    shows_full = values_show reached lawful cover ok mutexes layers task encoding valid state (one_state state related.state_reached) (plain_of state related.state_reached) vector (lists_of state vector related) full is-full

    -- an operator of an action carries the values to the next ones
    module _ (a : ReachedAction) (a-in : Contains reached.actions a) (one-next : AreExclusive cover (after full a state)) (o : Operator) (m : List Pair) (hold : all_hold (values task vector) m ≡ true) (same : IsSameOperator (operator_with cover a m) o) where
      abbrev next : State ℕ
      next = after full a state

      placed : IsPlaced cover full state a
      placed = action_placed reached cover ok state full is-full.basic a (lawful_action a a-in)

      plain_effect : (q : Effect) → Contains (effects_of cover a.effects) q → IsPlain cover size (values task vector) (show state) (show next) q
      plain_effect q in' =
          let from = effect_from cover a q in' in
          record {
            below = within cover mutexes layers reached task encoding q.var from.below;
            shown = shows_full q.var from.below ∙ same_place full state (set_of cover q.var) (placed.basic from.effect from.of_action q.var from.stands_there) ∙ sym (show_low state q.var from.below);
            small_after = λ two. let s = from.small in omega arith;
            small_next = λ two. let s = small_place next q.var in let e = show_low next q.var from.below in omega arith;
            small_conditions = λ two p p-in on.
                let s = (split_pairs cover from.literals q.conditions from.in_split p p-in).1 in
                let e : last_value cover p.var ≡ 1 = ap (last_value cover) on ∙ two in
                omega arith;
          }

      drives : Drives task size vector (effects_of cover a.effects) (show state) (show next)
      drives =
          record {
            sets = λ q in' fires.
                let s = sets cover full state a placed one_full one-next task vector shows_full q in' fires in
                show_low next q.var s.0 ∙ s.1;
            moves = λ var below. elim (cases_lt var n) [
              | inl low ↦ elim (moves cover full state a placed one_full one-next task vector shows_full var low) [
                | inl stays ↦ inl (show_low next var low ∙ stays ∙ sym (show_low state var low))
                | inr firing ↦ inr firing
              ]
              | inr past ↦ inl (show_past next var past ∙ sym (show_past state var past))
            ];
          }

      carries : Carries task size vector o (show state) (show next)
      carries =
          let raw = simplified cover m (effects_of cover a.effects) in
          let driven = drives_simplified cover task size vector m hold (effects_of cover a.effects) (show state) (show next) plain_effect drives in
          let back = λ (q : Effect) (in' : Contains o.effects q). Contains-permutation o.effects raw q (IsPermutation-sym raw o.effects same.effects) in' in
          record {
            sets = λ q in' fires. (below_simplified cover task size vector m hold (effects_of cover a.effects) (show state) (show next) plain_effect drives q (back q in'), driven.sets q (back q in') fires);
            moves = λ var below. elim (driven.moves var below) [
              | inl stays ↦ inl stays
              | inr firing ↦ inr (record { effect = firing.effect; listed = Contains-permutation raw o.effects firing.effect same.effects firing.listed; fires = firing.fires; on = firing.on })
            ];
          }

  same_cost : (a : ReachedAction) → Contains reached.actions a → (o : Operator) → o.cost ≡ a.cost → cost_in task o ≡ a.cost
  same_cost a in' o cost =
      elim (cases_Bool task.metric) [
        | inl yes' ↦ cond-true task.metric o.cost 1 yes' ∙ cost
        | inr no' ↦ cond-false task.metric o.cost 1 no' ∙ sym ((lawful_action a in').unit_cost (sym encoding.metric ∙ no'))
      ]

  -- the full facts that a related vector shows
  abbrev full_of : (state : State ℕ) (vector : List ℕ) → Related state vector → State ℕ
  full_of state vector related = read reached lawful cover ok mutexes layers task encoding valid state (one_state state related.state_reached) (plain_of state related.state_reached) vector (lists_of state vector related)

  full_is : (state : State ℕ) (vector : List ℕ) (related : Related state vector) → IsFull (meaning T) state (full_of state vector related)
  full_is state vector related = read_full reached lawful cover ok mutexes layers task encoding valid state (one_state state related.state_reached) (plain_of state related.state_reached) vector (lists_of state vector related)

  -- an operator that is applicable in a related vector, and the action's step
  pub record Taken (state : State ℕ) (vector : List ℕ) (o : Operator) : Type 0 where
    pub action : ReachedAction
    pub of_task : Contains reached.actions action
    pub next : State ℕ
    pub step : Takes (meaning T) state (action_row action) next
    pub carries : Carries task size vector o (show state) (show next)
    pub same_name : o.name ≡ action.name
    pub same_cost : cost_in task o ≡ action.cost

  taken : (state : State ℕ) (vector : List ℕ) → Related state vector → (o : Operator) → Contains task.operators o → IsApplicable task vector o → Taken state vector o
  taken state vector related o in' applicable =
      let full = full_of state vector related in
      let is-full = full_is state vector related in
      let from = operator_from cover mutexes layers reached task encoding o in' in
      let a = from.action in
      let law = lawful_action a from.of_task in
      let hold : all_hold (values task vector) from.member ≡ true = subst (λ ps. all_hold (values task vector) ps ≡ true) from.same.conditions applicable in
      let one = one_full state vector related full is-full in
      let shows = shows_full state vector related full is-full in
      let holding = split_back cover full one (values task vector) shows a.condition (literals_stand reached cover ok a.condition law.literals) from.member from.in_split hold in
      let step : Takes (meaning T) state (action_row a) (after full a state) = record { of_task = member_map action_row reached.actions a from.of_task; full = full; is_full = is-full; applicable = holding; costs = refl; follows = λ f. sym (successor_is reached full state a f) } in
      let next-reached = reached_more (Takes (meaning T)) (initial T) state (after full a state) (action_row a) related.state_reached step in
      record {
        action = a;
        of_task = from.of_task;
        next = after full a state;
        step = step;
        carries = carries state vector related full is-full a from.of_task (one_state (after full a state) next-reached) o from.member hold from.same;
        same_name = from.same.name;
        same_cost = same_cost a from.of_task o from.same.cost;
      }

  step_back : (vector : List ℕ) (state : State ℕ) → Related state vector → (o : Operator) (next : List ℕ) → Step task vector o next → HasStep (plans (meaning T)) state o.name (cost_in task o) (λ s. Related s next)
  step_back vector state related o next step =
      let t = taken state vector related o step.of_task step.applicable in
      record {
        step = action_row t.action;
        next = t.next;
        takes = t.step;
        same_name = sym t.same_name;
        same_cost = sym t.same_cost;
        demand = record {
          state_reached = reached_more (Takes (meaning T)) (initial T) state t.next (action_row t.action) related.state_reached t.step;
          vector_reached = reached_more (Step task) task.state vector next o related.vector_reached step;
          shows = low_of t.next next (successor_lists task size vector o (show state) (show t.next) (lists_of state vector related) t.carries next step.successor);
        };
      }

  step_on : (state : State ℕ) (vector : List ℕ) → Related state vector → (row : ActionRow ℕ) (next : State ℕ) → Takes (meaning T) state row next → HasStep (solutions task) vector row.name row.cost (Related next)
  step_on state vector related row next step =
      let a = map_member action_row reached.actions row step.of_task in
      let law = lawful_action a.0 a.1 in
      let full = step.full in
      let is-full = step.is_full in
      let one = one_full state vector related full is-full in
      let shows = shows_full state vector related full is-full in
      let holding : holds full a.0.condition ≡ true = subst (λ (r : ActionRow ℕ). holds full r.condition ≡ true) (sym a.2) step.applicable in
      let m = split_on cover full one (values task vector) shows a.0.condition (literals_stand reached cover ok a.0.condition law.literals) holding in
      let o = operator_for cover mutexes layers reached task encoding a.0 a.1 m.0 m.1 in
      let next-reached = reached_more (Takes (meaning T)) (initial T) state next row related.state_reached step in
      let same : (f : ℕ) → next f ≡ after full a.0 state f = λ f. step.follows f ∙ ap (λ (r : ActionRow ℕ). successor (meaning T) state full r f) (sym a.2) ∙ successor_is reached full state a.0 f in
      let one-next : AreExclusive cover (after full a.0 state) = λ var below f g f-in g-in f-true g-true. one_state next next-reached var below f g f-in g-in (same f ∙ f-true) (same g ∙ g-true) in
      let carries' = carries state vector related full is-full a.0 a.1 one-next o.0 m.0 m.2 o.2 in
      let vector' = map (show (after full a.0 state)) (range_with_len 0 size) in
      let lists : Lists size (show (after full a.0 state)) vector' = record {
        count = length-map-range_with_len (show (after full a.0 state)) 0 size;
        at = λ var below. get_or-map-range_with_len (show (after full a.0 state)) 0 size var var 0 below (omega arith);
      } in
      let step' : Step task vector o.0 vector' = record {
        of_task = o.1;
        applicable = subst (λ ps. all_hold (values task vector) ps ≡ true) (sym o.2.conditions) m.2;
        successor = lists_successor task size vector o.0 (show state) (show (after full a.0 state)) (lists_of state vector related) carries' vector' lists;
      } in
      record {
        step = o.0;
        next = vector';
        takes = step';
        same_name = o.2.name ∙ ap (λ (r : ActionRow ℕ). r.name) a.2;
        same_cost = same_cost a.0 a.1 o.0 o.2.cost ∙ ap (λ (r : ActionRow ℕ). r.cost) a.2;
        demand = record {
          state_reached = next-reached;
          vector_reached = reached_more (Step task) task.state vector vector' o.0 related.vector_reached step';
          shows = λ var low. low_of (after full a.0 state) vector' lists var low ∙ same_place (after full a.0 state) next (set_of cover var) (λ f in'. sym (same f));
        };
      }

  -- what is true in one state of the vector is true in the other
  also_true : (state next : State ℕ) (vector : List ℕ) → Related state vector → Related next vector → (f : ℕ) → f < length reached.facts → state f ≡ true → next f ≡ true
  also_true state next vector here there f below is =
      let in' = ok.has_all.covered f below in
      let set = set_of cover in'.0 in
      let same : value_in cover next in'.0 ≡ value_in cover state in'.0 = sym (there.shows in'.0 in'.1) ∙ here.shows in'.0 in'.1 in
      true_at_place set f in'.2 next (same ∙ place_of_true set f in'.2 state (one_state state here.state_reached in'.0 in'.1) is)

  -- an effect is on a fact
  on_a_fact : (a : ReachedAction) → Contains reached.actions a → (f : ℕ) → length reached.facts ≤ f → (e : ReachedEffect) → Contains a.effects e → e.fact ≡ f → ⊥
  on_a_fact a in' f past e e-in here =
      let low : e.fact < length reached.facts = (All-contains (IsLawfulEffect reached) a.effects e (lawful_action a in').each_effect e-in).fact in
      let high : length reached.facts ≤ e.fact = subst (λ g. length reached.facts ≤ g) (sym here) past in
      omega arith

  -- an action leaves what is no fact
  leaves_others : (state full : State ℕ) (a : ReachedAction) → Contains reached.actions a → (f : ℕ) → length reached.facts ≤ f → after full a state f ≡ state f
  leaves_others state full a in' f past =
      let unadded : is_added full a f ≡ false = false_from_ne_true (is_added full a f) (λ h.
      let e = any_member (adds_fact full f) a.effects h in
      on_a_fact a in' f past e.0 e.1 (eqb-true e.0.fact f (and_parts (eqb e.0.fact f) _ (and_parts e.0.adds _ e.2).1).0)) in
      let undeleted : is_deleted full a f ≡ false = false_from_ne_true (is_deleted full a f) (λ h.
      let e = any_member (deletes_fact full f) a.effects h in
      on_a_fact a in' f past e.0 e.1 (eqb-true e.0.fact f (and_parts (eqb e.0.fact f) _ (and_parts (not e.0.adds) _ e.2).1).0)) in
      ap (λ b. b || (state f && not (is_deleted full a f))) unadded ∙ ap (λ b. state f && not b) undeleted ∙ and-true (state f)

  -- a step between two states of one vector is idle
  idle_between : (state next : State ℕ) (vector : List ℕ) → Related state vector → Related next vector → (row : ActionRow ℕ) → Takes (meaning T) state row next → IsIdle state next
  idle_between state next vector here there row step f =
      elim (cases_lt f (length reached.facts)) [
        | inl below ↦
            elim (cases_Bool (state f)) [
              | inl is ↦ also_true state next vector here there f below is ∙ sym is
              | inr no' ↦ false_from_ne_true (next f) (λ is. both_ways (state f) no' (also_true next state vector there here f below is)) ∙ sym no'
            ]
        | inr past ↦
            let a = map_member action_row reached.actions row step.of_task in
            step.follows f ∙ ap (λ (r : ActionRow ℕ). successor (meaning T) state step.full r f) (sym a.2) ∙ successor_is reached step.full state a.0 f ∙ leaves_others state step.full a.0 a.1 f past
      ]

  -- a step that isn't idle changes the vector
  busy_step_on : (state : State ℕ) (vector : List ℕ) → Related state vector → (row : ActionRow ℕ) (next : State ℕ) → TakesBusy (meaning T) state row next → HasStep (changing_system task) vector row.name row.cost (Related next)
  busy_step_on state vector related row next busy =
      let f = step_on state vector related row next busy.0 in
      record {
        step = f.step;
        next = f.next;
        takes = (f.takes, λ same. busy.1 (idle_between state next vector related (subst (Related next) same f.demand) row busy.0));
        same_name = f.same_name;
        same_cost = f.same_cost;
        demand = f.demand;
      }

  starts : Related (initial T) task.state
  starts = record { state_reached = ([], refl); vector_reached = ([], refl); shows = start_at cover mutexes layers reached task encoding }

  goal_back : (vector : List ℕ) (state : State ℕ) → Related state vector → MeetsTaskGoal task vector → MeetsGoal (meaning T) state
  goal_back vector state related meets =
      record {
        full = full_of state vector related;
        is_full = full_is state vector related;
        holding = goal_meets reached lawful cover ok mutexes layers task encoding valid state (one_state state related.state_reached) (plain_of state related.state_reached) vector (lists_of state vector related) (full_of state vector related) (full_is state vector related) ∙ meets;
      }

  goal_on : (state : State ℕ) (vector : List ℕ) → Related state vector → MeetsGoal (meaning T) state → MeetsTaskGoal task vector
  goal_on state vector related meets =
      sym (goal_meets reached lawful cover ok mutexes layers task encoding valid state (one_state state related.state_reached) (plain_of state related.state_reached) vector (lists_of state vector related) meets.full meets.is_full) ∙ meets.holding

  forth : IsFollowed (plans (meaning T)) (solutions task) Related
  forth = record { starts = starts; steps = step_on; goals = goal_on }

  back : IsFollowed (solutions task) (plans (meaning T)) (λ vector state. Related state vector)
  back = record { starts = starts; steps = step_back; goals = goal_back }

  state_for : (vector : List ℕ) → IsReachableVector task vector → (state : State ℕ) × IsReachable (meaning T) state × Related state vector
  state_for = state_follows (solutions task) (plans (meaning T)) (λ vector state. Related state vector) back

  agrees : NeverDisagrees task
  agrees vector o is in' applicable =
      let s = state_for vector is in
      let t = taken s.0 vector s.2 o in' applicable in
      carried_agrees task size vector o (show s.0) (show t.next) (lists_of s.0 vector s.2) t.carries

  -- a group's pair that holds is a true fact of the group, at its first place
  pub record IsPlaceOf (group : List ℕ) (full : State ℕ) (p : Pair) : Type 0 where
    pub fact : ℕ
    pub of_group : Contains group fact
    pub is : full fact ≡ true
    pub first : option_map_or (λ q. q.var) (first_place cover fact) 0 ≡ p.var

  first_is_var : (o : Option Pair) (var : ℕ) → option_map_or (λ q. eqb q.var var) o false ≡ true → option_map_or (λ q. q.var) o 0 ≡ var
  first_is_var None var is = absurd (false≢true is)
  first_is_var (Some q) var is = eqb-true q.var var is

  place_of : (group : List ℕ) (full : State ℕ) (now : List ℕ) → Shows cover full now → (p : Pair) → Contains (group_of cover group).facts p → get_or now p.var 0 ≡ p.val → IsPlaceOf group full p
  place_of group full now shows p in' at =
      let var = flat_map_member (λ var. map (pair var) (filter (is_groups cover group var) (range_with_len 0 (last_value cover var)))) (range_with_len 0 n) p in' in
      let val = map_member (pair var.0) (filter (is_groups cover group var.0) (range_with_len 0 (last_value cover var.0))) p var.2 in
      let listed = filter_member (is_groups cover group var.0) (range_with_len 0 (last_value cover var.0)) val.0 val.1 in
      let low = range_member (last_value cover var.0) val.0 listed.0 in
      let var-low = range_member n var.0 var.1 in
      let fact = get_or (set_of cover var.0) val.0 0 in
      let parts = and_parts (is_among eqb group fact) (option_map_or (λ q. eqb q.var var.0) (first_place cover fact) false) listed.1 in
      let same-var : var.0 ≡ p.var = ap (λ (q : Pair). q.var) val.2 in
      let here : value_in cover full var.0 ≡ val.0 = sym (shows var.0 var-low) ∙ ap (λ v. get_or now v 0) same-var ∙ at ∙ ap (λ (q : Pair). q.val) (sym val.2) in
      let inside : value_in cover full var.0 < length (set_of cover var.0) = subst (λ k. k < length (set_of cover var.0)) (sym here) low in
      record {
        fact = fact;
        of_group = has_member group fact parts.0;
        is = ap (λ k. full (get_or (set_of cover var.0) k 0)) (sym here) ∙ passes_at_first full (set_of cover var.0) 0 inside;
        first = first_is_var (first_place cover fact) var.0 parts.1 ∙ same-var;
      }

  group_exclusive : (vector : List ℕ) → IsReachableVector task vector → (g : Group) → Contains task.groups g → AtMostOnePair (values task vector) g.facts
  group_exclusive vector is g g-in p q p-in q-in p-at q-at =
      let s = state_for vector is in
      let full = full_of s.0 vector s.2 in
      let is-full = full_is s.0 vector s.2 in
      let shows = shows_full s.0 vector s.2 full is-full in
      let raw = map_member (group_of cover) (filter _ mutexes) g (Contains-permutation task.groups (groups_of cover mutexes) g (IsPermutation-sym (groups_of cover mutexes) task.groups encoding.groups) g-in) in
      let of-groups = (filter_member _ mutexes raw.0 raw.1).0 in
      let basic = (All-contains (IsBasicGroup reached) mutexes raw.0 are-groups of-groups).basic in
      let a = place_of raw.0 full (values task vector) shows p (subst (λ (h : Group). Contains h.facts p) (sym raw.2) p-in) p-at in
      let b = place_of raw.0 full (values task vector) shows q (subst (λ (h : Group). Contains h.facts q) (sym raw.2) q-in) q-at in
      let state-true = λ (f : ℕ) (f-in : Contains raw.0 f) (f-is : full f ≡ true). sym (is-full.basic f (All-contains (λ f. is_derived reached.facts f ≡ false) raw.0 f basic f-in)) ∙ f-is in
      let one = All-contains (IsExclusive reached) mutexes raw.0 groups-exclusive of-groups s.0 s.1 a.fact b.fact a.of_group b.of_group (state-true a.fact a.of_group a.is) (state-true b.fact b.of_group b.is) in
      let same-var : p.var ≡ q.var = sym a.first ∙ ap (λ f. option_map_or (λ (q : Pair). q.var) (first_place cover f) 0) one ∙ b.first in
      let same-val : p.val ≡ q.val = sym p-at ∙ ap (λ v. get_or (values task vector) v 0) same-var ∙ q-at in
      λ i. record { var = same-var i; val = same-val i }

  pub simulates : Simulates cover reached task
  simulates =
      record {
        runs = record { forth = forth; back = back };
        full = λ state full vector related is-full. shows_full state vector related full is-full;
        busy_plans = run_follows (busy_system (meaning T)) (changing_system task) Related (record { starts = starts; steps = busy_step_on; goals = goal_on });
        is_sound = record {
          exclusive = λ vector is. all_from_members (λ (g : Group). AtMostOnePair (values task vector) g.facts) task.groups (group_exclusive vector is);
          agrees = agrees;
        };
      }
