-- A task with settled atoms has the runs of the task: a state shows the other where kept atoms have the same value in both.
use Rattle.std.proofs.Common.{◌≡◌, ℕ, Bool, true, false, not, ◌&&◌, ◌||◌, cond, ◌⊎◌, inl, inr, List, [], ◌∷◌, map, Option, Some, None, ◌<◌, refl, sym, ap, ◌∙◌, subst, arith}
use Rattle.std.specs.List.{list_any, list_all, filter, Contains}
use Rattle.std.proofs.lemmas.Bool.{cases_Bool, and_parts, and_from, true≢false, not-true, false_from_ne_true, true_from_ne_false}
use Rattle.std.proofs.lemmas.Option.{none-some}
use Rattle.std.specs.Option.{is_some, option_map_or}
use Rattle.planning.specs.Task.{State, IsFull, IsIdle, successor, Takes}
use Rattle.runs.specs.Systems.{HasStep}
use Rattle.planning.specs.Plan.{system}
use Rattle.planning.specs.Same.{SameRuns, MeansTheSame}
use Rattle.planning.proofs.SameRuns.{means_the_same}
use Rattle.ground_task.specs.declared.types.Cond.{Cond}
use Rattle.ground_task.specs.declared.types.GoalRow.{GoalRow}
use Rattle.ground_task.specs.declared.types.GoalRow.TheVariants.{Never, All}
use Rattle.ground_task.specs.Literals.{EffectRow, ActionRow, AxiomRow, LiteralTask, holds, gives, writes, initial, goal_holds, meaning}
use Rattle.ground_task.specs.Ranked.{IsRanked}
use Rattle.ground_task.specs.Settled.{Settling, is_open, kept_condition, kept_effect, kept_effects, kept_action, kept_actions, kept_axiom, kept_axioms, kept_goal, IsSettled, Shows}
use Rattle.lists.proofs.Items.{Among, among_contains, contains_among, among_map, map_source, among_filter, filter_among, passing, none_passes, same_items_any, any_kept, all_kept}

-- the names: two kept atoms are the same where their names are, and each name leads back to its atom
pub record Names {A B : Type 0} (by : Settling A B) (task : LiteralTask A) (task' : LiteralTask B) : Type 0 where
  pub back : B → Option A
  pub back_kept : (b : B) (a : A) → back b ≡ Some a → (by.keeps a ≡ true) × (by.named a ≡ b)
  pub named_back : (a : A) → by.keeps a ≡ true → back (by.named a) ≡ Some a
  pub same_is : (a b : A) → task.same a b ≡ true → a ≡ b
  pub same_is' : (a b : B) → task'.same a b ≡ true → a ≡ b
  pub same_named : (a b : A) → by.keeps a ≡ true → by.keeps b ≡ true → task'.same (by.named a) (by.named b) ≡ task.same a b
  pub derived_named : (a : A) → by.keeps a ≡ true → task'.is_derived (by.named a) ≡ task.is_derived a

-- what keeps settled atoms at their values
pub record Stays {A B : Type 0} (by : Settling A B) (task : LiteralTask A) : Type 0 where
  pub init : (a : A) → by.keeps a ≡ false → initial task a ≡ by.value a
  pub effects : (row : ActionRow A) → Among row task.actions → is_open by row.condition ≡ true → (e : EffectRow A) → Among e row.effects → is_open by e.condition ≡ true → by.keeps e.atom ≡ false → e.adds ≡ by.value e.atom
  pub derived : (a : A) → by.keeps a ≡ false → task.is_derived a ≡ true → by.value a ≡ false
  pub axioms : (row : AxiomRow A) → Among row task.axioms → by.keeps row.atom ≡ false → task.is_derived row.atom ≡ true → is_open by row.condition ≡ false
  pub full : (state full : State A) → ((a : A) → by.keeps a ≡ false → state a ≡ by.value a) → IsFull (meaning task) state full → (a : A) → by.keeps a ≡ false → full a ≡ by.value a

turn : (c r d s : Bool) → ((c && r) && (d && s)) ≡ ((c && d) && (r && s))
turn true true d s = refl
turn true false true s = refl
turn true false false s = refl
turn false r d s = refl

module _ {A B : Type 0} (by : Settling A B) where
  -- a condition holds where it is open and what is left of it holds
  pub holds_kept : (full : State A) (full' : State B) → Shows by full full' → (c : Cond A) → holds full c ≡ (is_open by c && holds full' (kept_condition by c))
  holds_kept full full' shows c =
      let open_p = list_all (λ a. by.keeps a || by.value a) c.positive in
      let open_n = list_all (λ a. by.keeps a || not (by.value a)) c.negative in
      let left_p = list_all full' (map by.named (filter by.keeps c.positive)) in
      let left_n = list_all (λ b. not (full' b)) (map by.named (filter by.keeps c.negative)) in
      let p = all_kept by.keeps by.named by.value full full' shows.kept shows.settled c.positive in
      let n = all_kept by.keeps by.named (λ a. not (by.value a)) (λ a. not (full a)) (λ b. not (full' b)) (λ a is. ap not (shows.kept a is)) (λ a is. ap not (shows.settled a is)) c.negative in
      ap (λ b. b && list_all (λ a. not (full a)) c.negative) p
      ∙ ap (λ b. (open_p && left_p) && b) n
      ∙ turn open_p left_p open_n left_n

  -- a condition with a false settled literal doesn't hold
  pub closed_fails : (full : State A) → ((a : A) → by.keeps a ≡ false → full a ≡ by.value a) → (c : Cond A) → is_open by c ≡ false → holds full c ≡ false
  closed_fails full settled c closed = false_from_ne_true (holds full c) (λ held.
      let parts = and_parts (list_all full c.positive) (list_all (λ a. not (full a)) c.negative) held in
      true≢false (sym (opens c parts.0 parts.1) ∙ closed))
    where
      literal : (k t v : Bool) → (k ≡ false → t ≡ v) → t ≡ true → (k || v) ≡ true
      literal true t v same is = refl
      literal false t v same is = sym (same refl) ∙ is

      opens : (c : Cond A) → list_all full c.positive ≡ true → list_all (λ a. not (full a)) c.negative ≡ true → is_open by c ≡ true
      opens c p n =
          and_from (list_all (λ a. by.keeps a || by.value a) c.positive) (list_all (λ a. by.keeps a || not (by.value a)) c.negative)
          (each c.positive (λ a. full a) (λ a. by.value a) settled p)
          (each c.negative (λ a. not (full a)) (λ a. not (by.value a)) (λ a out. ap not (settled a out)) n)
        where
          each : (xs : List A) (test value : A → Bool) → ((a : A) → by.keeps a ≡ false → test a ≡ value a) → list_all test xs ≡ true → list_all (λ a. by.keeps a || value a) xs ≡ true
          each [] test value same all = refl
          each (x ∷ xs) test value same all =
              let parts = and_parts (test x) (list_all test xs) all in
              and_from (by.keeps x || value x) (list_all (λ a. by.keeps a || value a) xs) (literal (by.keeps x) (test x) (value x) (same x) parts.0) (each xs test value same parts.1)

-- an atom that is added has the value true, and one that is deleted the value false: so a settled one keeps its value
keeps_value : (added deleted before value : Bool) → (added ≡ true → value ≡ true) → (deleted ≡ true → value ≡ false) → before ≡ value → (added || (before && not deleted)) ≡ value
keeps_value true d b v is_added is_deleted same = sym (is_added refl)
keeps_value false true true v is_added is_deleted same = sym (is_deleted refl)
keeps_value false true false v is_added is_deleted same = same
keeps_value false false true v is_added is_deleted same = same
keeps_value false false false v is_added is_deleted same = same

neither : (p s h : Bool) → (s ≡ false) ⊎ (h ≡ false) → (p && (s && h)) ≡ false
neither false s h none = refl
neither true s h (inl out) = ap (λ b. b && h) out
neither true true h (inr out) = out
neither true false h (inr out) = refl

-- a state that stays as it was shows one that does
idle_back : {A B : Type 0} (by : Settling A B) (state next : State A) (state' next' : State B) → Shows by state state' → Shows by next next' → IsIdle state' next' → IsIdle state next
idle_back by state next state' next' shows shows_next idle a = elim (cases_Bool (by.keeps a)) [
  | inl kept ↦ sym (shows_next.kept a kept) ∙ idle (by.named a) ∙ shows.kept a kept
  | inr out ↦ shows_next.settled a out ∙ sym (shows.settled a out)
]

module _ {A B : Type 0} (by : Settling A B) (task : LiteralTask A) (task' : LiteralTask B) (is : IsSettled by task task') (names : Names by task task') (stays : Stays by task) where
  -- a settled atom isn't the same as a kept one
  others : (a : A) → by.keeps a ≡ true → (b : A) → by.keeps b ≡ false → task.same b a ≡ false
  others a kept b out = false_from_ne_true (task.same b a) (λ same. true≢false (sym kept ∙ sym (ap by.keeps (names.same_is b a same)) ∙ out))

  -- what an effect or an axiom on an atom with this condition says of a kept atom
  row_kept : (full : State A) (full' : State B) → Shows by full full' → (a : A) → by.keeps a ≡ true → (on : A) (c : Cond A) →
      (by.keeps on && is_open by c) ≡ true → (task.same on a && holds full c) ≡ (task'.same (by.named on) (by.named a) && holds full' (kept_condition by c))
  row_kept full full' shows a kept on c both =
      let parts = and_parts (by.keeps on) (is_open by c) both in
      let same = names.same_named on a parts.0 kept in
      let holding : holds full c ≡ holds full' (kept_condition by c) = holds_kept by full full' shows c ∙ ap (λ b. b && holds full' (kept_condition by c)) parts.1 in
      ap (λ b. b && holds full c) (sym same) ∙ ap (λ b. task'.same (by.named on) (by.named a) && b) holding

  row_out : (full : State A) (full' : State B) → Shows by full full' → (a : A) → by.keeps a ≡ true → (on : A) (c : Cond A) →
      (by.keeps on && is_open by c) ≡ false → (task.same on a ≡ false) ⊎ (holds full c ≡ false)
  row_out full full' shows a kept on c out = elim (cases_Bool (by.keeps on)) [
    | inl is_kept ↦ inr (closed_fails by full shows.settled c (sym (ap (λ b. b && is_open by c) is_kept) ∙ out))
    | inr out' ↦ inl (others a kept on out')
  ]

  effects_kept : (full : State A) (full' : State B) → Shows by full full' → (a : A) → by.keeps a ≡ true → (p : Bool → Bool) (rows : List (EffectRow A)) →
      list_any (λ row. p row.adds && writes task full a row) rows ≡ list_any (λ row. p row.adds && writes task' full' (by.named a) row) (kept_effects by rows)
  effects_kept full full' shows a kept p rows =
      any_kept (λ row. by.keeps row.atom && is_open by row.condition) (kept_effect by) (λ row. p row.adds && writes task full a row) (λ row. p row.adds && writes task' full' (by.named a) row) rows
      (λ row among both. ap (λ b. p row.adds && b) (row_kept full full' shows a kept row.atom row.condition both))
      (λ row among out. neither (p row.adds) (task.same row.atom a) (holds full row.condition) (row_out full full' shows a kept row.atom row.condition out))

  axioms_kept : (full : State A) (full' : State B) → Shows by full full' → (a : A) → by.keeps a ≡ true →
      list_any (gives task full a) task.axioms ≡ list_any (gives task' full' (by.named a)) task'.axioms
  axioms_kept full full' shows a kept =
      any_kept (λ row. by.keeps row.atom && is_open by row.condition) (kept_axiom by) (gives task full a) (gives task' full' (by.named a)) task.axioms
      (λ row among both. row_kept full full' shows a kept row.atom row.condition both)
      (λ row among out. neither true (task.same row.atom a) (holds full row.condition) (row_out full full' shows a kept row.atom row.condition out))
      ∙ same_items_any (gives task' full' (by.named a)) (kept_axioms by task.axioms) task'.axioms
      (λ row in'. among_contains task'.axioms row ((is.axioms row).0 (contains_among (kept_axioms by task.axioms) row in')))
      (λ row in'. among_contains (kept_axioms by task.axioms) row ((is.axioms row).1 (contains_among task'.axioms row in')))

  -- ---- full states

  module _ (state : State A) (state' : State B) (shows : Shows by state state') where
    -- the full state of the other task
    abbrev value_of : State A → B → Option A → Bool
    value_of full b (Some a) = full a
    value_of full b None = cond (task'.is_derived b) false (state' b)

    abbrev forth_full : State A → State B
    forth_full full b = value_of full b (names.back b)

    forth_shows : (full : State A) → IsFull (meaning task) state full → Shows by full (forth_full full)
    forth_shows full is_full = record {
      kept = λ a kept. ap (value_of full (by.named a)) (names.named_back a kept);
      settled = λ a out. stays.full state full shows.settled is_full a out;
    }

    forth_is_full : (full : State A) → IsFull (meaning task) state full → IsFull (meaning task') state' (forth_full full)
    forth_is_full full is_full = record {
      basic = λ b basic. basic_by b basic (names.back b) refl;
      derived = λ b derived. derived_by b derived (names.back b) refl;
    }
      where
        basic_by : (b : B) → task'.is_derived b ≡ false → (o : Option A) → names.back b ≡ o → value_of full b (names.back b) ≡ state' b
        basic_by b basic None e = ap (value_of full b) e ∙ ap (λ t. cond t false (state' b)) basic
        basic_by b basic (Some a) e =
            let found = names.back_kept b a e in
            let named = found.1 in
            let basic' = sym (names.derived_named a found.0) ∙ ap task'.is_derived named ∙ basic in
            ap (value_of full b) e ∙ is_full.basic a basic' ∙ sym (shows.kept a found.0) ∙ ap state' named

        derived_by : (b : B) → task'.is_derived b ≡ true → (o : Option A) → names.back b ≡ o → value_of full b (names.back b) ≡ list_any (gives task' (forth_full full) b) task'.axioms
        derived_by b derived None e =
            ap (value_of full b) e ∙ ap (λ t. cond t false (state' b)) derived
            ∙ sym (none_passes (gives task' (forth_full full) b) task'.axioms (λ row among passes.
            let from = map_source (kept_axiom by) (filter (λ row. by.keeps row.atom && is_open by row.condition) task.axioms) row
            (among_contains (kept_axioms by task.axioms) row ((is.axioms row).1 (contains_among task'.axioms row among))) in
            let kept = (and_parts (by.keeps from.source.atom) (is_open by from.source.condition) (filter_among (λ row. by.keeps row.atom && is_open by row.condition) from.source task.axioms from.among).1).0 in
            let same = names.same_is' row.atom b (and_parts (task'.same row.atom b) (holds (forth_full full) row.condition) passes).0 in
            let named : by.named from.source.atom ≡ b = ap (λ (r : AxiomRow B). r.atom) from.gives ∙ same in
            no_name (sym (names.named_back from.source.atom kept) ∙ ap names.back named ∙ e)))
          where
            no_name : {X : Type 0} {x : X} → Some x ≡ None → ⊥
            no_name e = true≢false (ap (λ o. is_some o) e)
        derived_by b derived (Some a) e =
            let found = names.back_kept b a e in
            let named = found.1 in
            let derived' = sym (names.derived_named a found.0) ∙ ap task'.is_derived named ∙ derived in
            ap (value_of full b) e ∙ is_full.derived a derived' ∙ axioms_kept full (forth_full full) (forth_shows full is_full) a found.0
            ∙ ap (λ c. list_any (gives task' (forth_full full) c) task'.axioms) named

    -- and back
    abbrev back_full : State B → State A
    back_full full' a = cond (by.keeps a) (full' (by.named a)) (by.value a)

    back_shows : (full' : State B) → Shows by (back_full full') full'
    back_shows full' = record {
      kept = λ a kept. sym (ap (λ b. cond b (full' (by.named a)) (by.value a)) kept);
      settled = λ a out. ap (λ b. cond b (full' (by.named a)) (by.value a)) out;
    }

    back_is_full : (full' : State B) → IsFull (meaning task') state' full' → IsFull (meaning task) state (back_full full')
    back_is_full full' is_full = record {
      basic = λ a basic. elim (cases_Bool (by.keeps a)) [
        | inl kept ↦ sym ((back_shows full').kept a kept) ∙ is_full.basic (by.named a) (names.derived_named a kept ∙ basic) ∙ shows.kept a kept
        | inr out ↦ (back_shows full').settled a out ∙ sym (shows.settled a out)
      ];
      derived = λ a derived. elim (cases_Bool (by.keeps a)) [
        | inl kept ↦ sym ((back_shows full').kept a kept) ∙ is_full.derived (by.named a) (names.derived_named a kept ∙ derived) ∙ sym (axioms_kept (back_full full') full' (back_shows full') a kept)
        | inr out ↦ (back_shows full').settled a out ∙ stays.derived a out derived ∙ sym (none_passes (gives task (back_full full') a) task.axioms (λ row among passes.
            let parts = and_parts (task.same row.atom a) (holds (back_full full') row.condition) passes in
            let same = names.same_is row.atom a parts.0 in
            let closed = stays.axioms row among (ap by.keeps same ∙ out) (ap task.is_derived same ∙ derived) in
            true≢false (sym parts.1 ∙ closed_fails by (back_full full') (back_shows full').settled row.condition closed)))
      ];
    }

  -- ---- the start, steps and the goal

  start_shows : Shows by (initial task) (initial task')
  start_shows = record {
    kept = λ a kept.
        ap (λ init. list_any (λ known. task'.same known (by.named a)) init) is.init
        ∙ sym (any_kept by.keeps by.named (λ known. task.same known a) (λ known. task'.same known (by.named a)) task.init
        (λ known among kept'. sym (names.same_named known a kept' kept)) (λ known among out. others a kept known out));
    settled = stays.init;
  }

  -- what an action leads to shows what it leads to in the other task
  next_shows : (state : State A) (state' : State B) → Shows by state state' → (full : State A) (full' : State B) → Shows by full full' →
      (row : ActionRow A) → Among row task.actions → is_open by row.condition ≡ true →
      Shows by (successor (meaning task) state full row) (successor (meaning task') state' full' (kept_action by row))
  next_shows state state' shows full full' fulls row among opened = record { kept = kept; settled = settled }
    where
      kept : (a : A) → by.keeps a ≡ true → successor (meaning task') state' full' (kept_action by row) (by.named a) ≡ successor (meaning task) state full row a
      kept a is_kept =
          let added = effects_kept full full' fulls a is_kept (λ b. b) row.effects in
          let deleted = effects_kept full full' fulls a is_kept not row.effects in
          let before = shows.kept a is_kept in
          cc (added, deleted, before)

      -- an effect that writes a settled atom writes its value
      value_written : (a : A) → by.keeps a ≡ false → (e : EffectRow A) → Among e row.effects → writes task full a e ≡ true → e.adds ≡ by.value a
      value_written a out e among' written =
          let parts = and_parts (task.same e.atom a) (holds full e.condition) written in
          let same = names.same_is e.atom a parts.0 in
          let opened' : is_open by e.condition ≡ true = true_from_ne_false (is_open by e.condition) (λ closed. true≢false (sym parts.1 ∙ closed_fails by full fulls.settled e.condition closed)) in
          stays.effects row among opened e among' opened' (ap by.keeps same ∙ out) ∙ ap by.value same

      settled : (a : A) → by.keeps a ≡ false → successor (meaning task) state full row a ≡ by.value a
      settled a out =
          keeps_value (list_any (λ e. e.adds && writes task full a e) row.effects) (list_any (λ e. not e.adds && writes task full a e) row.effects) (state a) (by.value a)
          (λ some.
          let found = passing (λ e. e.adds && writes task full a e) row.effects some in
          let parts = and_parts found.item.adds (writes task full a found.item) found.passes in
          sym (value_written a out found.item found.among parts.1) ∙ parts.0)
          (λ some.
          let found = passing (λ e. not e.adds && writes task full a e) row.effects some in
          let parts = and_parts (not found.item.adds) (writes task full a found.item) found.passes in
          sym (value_written a out found.item found.among parts.1) ∙ not-true found.item.adds parts.0)
          (shows.settled a out)

  -- a state that is the same at each atom shows the same
  shows_too : (state next : State A) (state' next' : State B) → Shows by state state' → ((a : A) → next a ≡ state a) → ((b : B) → next' b ≡ state' b) → Shows by next next'
  shows_too state next state' next' shows same same' = record {
    kept = λ a kept. same' (by.named a) ∙ shows.kept a kept ∙ sym (same a);
    settled = λ a out. same a ∙ shows.settled a out;
  }

  forth : (state : State A) (state' : State B) → Shows by state state' → (row : ActionRow A) (next : State A) → Takes (meaning task) state row next → HasStep (system (meaning task')) state' row.name row.cost (λ next'. Shows by next next')
  forth state state' shows row next takes =
      let full' = forth_full state state' shows takes.full in
      let fulls = forth_shows state state' shows takes.full takes.is_full in
      let among = among_contains task.actions row takes.of_task in
      let both : (is_open by row.condition && holds full' (kept_condition by row.condition)) ≡ true = sym (holds_kept by takes.full full' fulls row.condition) ∙ takes.applicable in
      let parts = and_parts (is_open by row.condition) (holds full' (kept_condition by row.condition)) both in
      record {
        step = kept_action by row;
        next = successor (meaning task') state' full' (kept_action by row);
        takes = record {
          of_task = (is.actions (kept_action by row)).0 (contains_among (kept_actions by task.actions) (kept_action by row)
              (among_map (kept_action by) row (filter (λ r. is_open by r.condition) task.actions) (among_filter (λ r. is_open by r.condition) row task.actions among parts.0)));
          full = full';
          is_full = forth_is_full state state' shows takes.full takes.is_full;
          applicable = parts.1;
          costs = refl;
          follows = λ b. refl;
        };
        same_name = refl;
        same_cost = refl;
        demand = shows_too (successor (meaning task) state takes.full row) next (successor (meaning task') state' full' (kept_action by row)) (successor (meaning task') state' full' (kept_action by row))
            (next_shows state state' shows takes.full full' fulls row among parts.0) takes.follows (λ b. refl);
      }

  back : (state' : State B) (state : State A) → Shows by state state' → (row' : ActionRow B) (next' : State B) → Takes (meaning task') state' row' next' → HasStep (system (meaning task)) state row'.name row'.cost (λ next. Shows by next next')
  back state' state shows row' next' takes =
      let full = back_full state state' shows takes.full in
      let fulls = back_shows state state' shows takes.full in
      let from = map_source (kept_action by) (filter (λ r. is_open by r.condition) task.actions) row' (among_contains (kept_actions by task.actions) row' ((is.actions row').1 takes.of_task)) in
      let row = from.source in
      let found = filter_among (λ r. is_open by r.condition) row task.actions from.among in
      let left : holds takes.full (kept_condition by row.condition) ≡ true = ap (λ (r : ActionRow B). holds takes.full r.condition) from.gives ∙ takes.applicable in
      let next_is : (b : B) → next' b ≡ successor (meaning task') state' takes.full (kept_action by row) b = λ b. takes.follows b ∙ ap (λ (r : ActionRow B). successor (meaning task') state' takes.full r b) (sym from.gives) in
      record {
        step = row;
        next = successor (meaning task) state full row;
        takes = record {
          of_task = contains_among task.actions row found.0;
          full = full;
          is_full = back_is_full state state' shows takes.full takes.is_full;
          applicable = holds_kept by full takes.full fulls row.condition ∙ and_from (is_open by row.condition) (holds takes.full (kept_condition by row.condition)) found.1 left;
          costs = refl;
          follows = λ a. refl;
        };
        same_name = ap (λ (r : ActionRow B). r.name) from.gives;
        same_cost = ap (λ (r : ActionRow B). r.cost) from.gives;
        demand = shows_too (successor (meaning task) state full row) (successor (meaning task) state full row) (successor (meaning task') state' takes.full (kept_action by row)) next'
            (next_shows state state' shows full takes.full fulls row found.0 found.1) (λ a. refl) next_is;
      }

  goal_kept : (full : State A) (full' : State B) → Shows by full full' → (g : GoalRow A) → goal_holds full g ≡ goal_holds full' (kept_goal by g)
  goal_kept full full' fulls Never = refl
  goal_kept full full' fulls (All c) = elim (cases_Bool (is_open by c)) [
    | inl opened ↦ holds_kept by full full' fulls c ∙ ap (λ b. b && holds full' (kept_condition by c)) opened ∙ ap (λ b. goal_holds full' (cond b (All (kept_condition by c)) Never)) (sym opened)
    | inr closed ↦ closed_fails by full fulls.settled c closed ∙ ap (λ b. goal_holds full' (cond b (All (kept_condition by c)) Never)) (sym closed)
  ]

  same_runs : SameRuns (meaning task) (meaning task') (Shows by)
  same_runs = record {
    forth = record {
      starts = start_shows;
      steps = forth;
      goals = λ state state' shows meets.
          let full' = forth_full state state' shows meets.full in
          record {
            full = full';
            is_full = forth_is_full state state' shows meets.full meets.is_full;
            holding = ap (goal_holds full') is.goal ∙ sym (goal_kept meets.full full' (forth_shows state state' shows meets.full meets.is_full) task.goal) ∙ meets.holding;
          };
    };
    back = record {
      starts = start_shows;
      steps = back;
      goals = λ state' state shows meets.
          let full = back_full state state' shows meets.full in
          record {
            full = full;
            is_full = back_is_full state state' shows meets.full meets.is_full;
            holding = goal_kept full meets.full (back_shows state state' shows meets.full) task.goal ∙ ap (goal_holds meets.full) (sym is.goal) ∙ meets.holding;
          };
    };
  }

  -- a step changes nothing where what is shown stays: its effects are on kept atoms alone
  idle_forth : (state next : State A) (state' next' : State B) → Shows by state state' → Shows by next next' → (row' : ActionRow B) → Takes (meaning task') state' row' next' → IsIdle state next → IsIdle state' next'
  idle_forth state next state' next' shows shows_next row' takes idle b = at (names.back b) refl
    where
      at : (o : Option A) → names.back b ≡ o → next' b ≡ state' b
      at (Some a) found =
          let named = names.back_kept b a found in
          subst (λ (b : B). next' b ≡ state' b) named.1 (shows_next.kept a named.0 ∙ idle a ∙ sym (shows.kept a named.0))
      at None missing =
          takes.follows b
          ∙ keeps_value (list_any (λ e. e.adds && writes task' takes.full b e) row'.effects) (list_any (λ e. not e.adds && writes task' takes.full b e) row'.effects) (state' b) (state' b)
          (unwritten (λ adds. adds)) (unwritten not) refl
        where
          unwritten : {v : Bool} (test : Bool → Bool) → list_any (λ (e : EffectRow B). test e.adds && writes task' takes.full b e) row'.effects ≡ true → state' b ≡ v
          unwritten test some =
              let found = passing (λ (e : EffectRow B). test e.adds && writes task' takes.full b e) row'.effects some in
              let written = (and_parts (test found.item.adds) (writes task' takes.full b found.item) found.passes).1 in
              let same = names.same_is' found.item.atom b (and_parts (task'.same found.item.atom b) (holds takes.full found.item.condition) written).0 in
              let from = map_source (kept_action by) (filter (λ r. is_open by r.condition) task.actions) row' (among_contains (kept_actions by task.actions) row' ((is.actions row').1 takes.of_task)) in
              let from_e = map_source (kept_effect by) (filter (λ e. by.keeps e.atom && is_open by e.condition) from.source.effects) found.item (subst (λ (r : ActionRow B). Among found.item r.effects) (sym from.gives) found.among) in
              let kept = (and_parts (by.keeps from_e.source.atom) (is_open by from_e.source.condition) (filter_among (λ e. by.keeps e.atom && is_open by e.condition) from_e.source from.source.effects from_e.among).1).0 in
              let named : by.named from_e.source.atom ≡ b = ap (λ (e : EffectRow B). e.atom) from_e.gives ∙ same in
              absurd (none-some from_e.source.atom (sym missing ∙ ap names.back (sym named) ∙ names.named_back from_e.source.atom kept))

  pub same_meaning : MeansTheSame (meaning task) (meaning task') (Shows by)
  same_meaning =
      means_the_same (meaning task) (meaning task') (Shows by) same_runs
      (λ s t shows step next takes next' shows_next idle. idle_back by s next t next' shows shows_next idle)
      (λ t s shows step next' takes next shows_next idle. idle_forth s next t next' shows shows_next step takes idle)

-- where no derived atom depends on itself, none does under the names of kept atoms
module _ {A B : Type 0} (by : Settling A B) (task : LiteralTask A) (task' : LiteralTask B) (is : IsSettled by task task') (names : Names by task task') (ranked : IsRanked task) where
  abbrev rank_of : B → ℕ
  rank_of b = option_map_or ranked.rank (names.back b) 0

  rank_named : (a : A) → by.keeps a ≡ true → rank_of (by.named a) ≡ ranked.rank a
  rank_named a kept = ap (λ o. option_map_or ranked.rank o 0) (names.named_back a kept)

  falls : (row : AxiomRow A) → by.keeps row.atom ≡ true → (atoms : List A) → ((a : A) → Among a atoms → task.is_derived a ≡ true → ranked.rank a < ranked.rank row.atom) →
      (b : B) → Among b (map by.named (filter by.keeps atoms)) → task'.is_derived b ≡ true → rank_of b < rank_of (by.named row.atom)
  falls row kept atoms below b among derived =
      let from = map_source by.named (filter by.keeps atoms) b among in
      let a = from.source in
      let found = filter_among by.keeps a atoms from.among in
      let lower = below a found.0 (sym (names.derived_named a found.1) ∙ ap task'.is_derived from.gives ∙ derived) in
      let low : rank_of b ≡ ranked.rank a = ap rank_of (sym from.gives) ∙ rank_named a found.1 in
      let high = rank_named row.atom kept in
      omega (arith, lower, low, high)

  -- the axiom that a settled one comes from
  record From (row' : AxiomRow B) : Type 0 where
    row : AxiomRow A
    among : Among row task.axioms
    kept : by.keeps row.atom ≡ true
    gives : kept_axiom by row ≡ row'

  from_kept : (row' : AxiomRow B) → Contains task'.axioms row' → From row'
  from_kept row' in' =
      let from = map_source (kept_axiom by) (filter (λ row. by.keeps row.atom && is_open by row.condition) task.axioms) row' (among_contains (kept_axioms by task.axioms) row' ((is.axioms row').1 in')) in
      let found = filter_among (λ row. by.keeps row.atom && is_open by row.condition) from.source task.axioms from.among in
      record { row = from.source; among = found.0; kept = (and_parts (by.keeps from.source.atom) (is_open by from.source.condition) found.1).0; gives = from.gives }

  pub still_ranked : IsRanked task'
  still_ranked = record {
    rank = rank_of;
    positive = λ row' in' b in_b derived.
        let from = from_kept row' in' in
        subst (λ (r : AxiomRow B). rank_of b < rank_of r.atom) from.gives
        (falls from.row from.kept from.row.condition.positive (λ a among. ranked.positive from.row (contains_among task.axioms from.row from.among) a (contains_among from.row.condition.positive a among)) b
        (subst (λ (r : AxiomRow B). Among b r.condition.positive) (sym from.gives) (among_contains row'.condition.positive b in_b)) derived);
    negative = λ row' in' b in_b derived.
        let from = from_kept row' in' in
        subst (λ (r : AxiomRow B). rank_of b < rank_of r.atom) from.gives
        (falls from.row from.kept from.row.condition.negative (λ a among. ranked.negative from.row (contains_among task.axioms from.row from.among) a (contains_among from.row.condition.negative a among)) b
        (subst (λ (r : AxiomRow B). Among b r.condition.negative) (sym from.gives) (among_contains row'.condition.negative b in_b)) derived);
  }
