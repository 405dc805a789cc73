-- The values in a vector that shows a state show the state's full facts.
use Rattle.std.proofs.Common.{◌≡◌, ℕ, suc, ◌<◌, ◌≤◌, Bool, true, false, cond, ◌&&◌, ◌||◌, eqb, ltb, List, [], ◌∷◌, append-nil, map, length, get_or, Some, refl, sym, ap, ◌∙◌, subst, inl, inr, arith}
use Rattle.std.specs.Cmp.{both_ways as same_tests}
use Rattle.std.specs.List.{Contains, list_any, find, flat_map, range_with_len, position_or_len}
use Rattle.std.specs.Option.{option_map_or}
use Rattle.std.proofs.Math.Bool.{and-true}
use Rattle.std.proofs.lemmas.Bool.{lt-ltb, le-ltb, cases_Bool, cases_lt, cond-true, cond-false, eqb-true, eq-eqb, and_parts, and_from, false≢true}
use Rattle.std.proofs.lemmas.Option.{none-some}
use Rattle.std.proofs.lemmas.List.FromFn.{length-map-range_with_len, get_or-map-range_with_len}
use Rattle.sas_task.specs.declared.parts.Pair.{Pair}
use Rattle.sas_task.specs.declared.parts.Rule.{Rule}
use Rattle.sas_task.specs.Task.{Task}
use Rattle.sas_task.specs.Valid.{IsValid, layer_of, default_of}
use Rattle.sas_task.specs.Values.{all_hold, firing_rule, values}
use Rattle.sas_task.specs.Completion.{Completes}
use Rattle.lists.proofs.Members.{no_member, member_first, member_later, any_member, member_any, member_map, map_member, member_single}
use Rattle.sas_task.proofs.Completion.{values_complete, values_only}
use Rattle.sas_task.proofs.Successors.{Lists}
use Rattle.ground_task.specs.declared.types.GoalRow.{GoalRow}
use Rattle.ground_task.specs.declared.types.GoalRow.TheVariants as goals
use Rattle.ground_task.specs.Literals.{holds, gives, initial, goal_holds, meaning}
use Rattle.planning.specs.Task.{State, IsFull}
use Rattle.reached_task.specs.declared.types.Reached.{Reached}
use Rattle.reached_task.specs.ReachedTask.{is_derived, axiom_row, reached_task}
use Rattle.fdr_effects.specs.Places.{Cover, set_of, value_in}
use Rattle.reached_task.specs.Lawful.{IsLawfulGoal, IsLawful}
use Rattle.fdr_encoder.specs.Encoding.{rule, goal_split, layer_above, IsEncoding}
use Rattle.fdr_encoder.specs.Covers.{MakesVariables}
use Rattle.fdr_encoder.specs.Simulates.{Shows}
use Rattle.fdr_effects.proofs.Sets.{same_place}
use Rattle.fdr_effects.proofs.Placed.{AreExclusive, place_in, place_is, place_at, first, first_in}
use Rattle.fdr_encoder.proofs.SplitHolds.{split_on, split_back}
use Rattle.reached_task.proofs.OneLayers.{derived_below}
use Rattle.fdr_encoder.proofs.Standing.{lawful_axiom, value_single, stands, literals_stand, OverDerived, only_place, kind, exclusive_full, over_by_layer, basic_by_layer, layer_of_derived, layer_of_basic, starts_plain}
use Rattle.fdr_encoder.proofs.Parts.{rule_after, in_one, within, start_at, last_variable, last_below, layer_last, start_last, goal_whole, goal_parted, rule_from, axiom_rule, goal_rule}

-- where all rules have the new value 0, what is found is 0, and 1 where none is
found_value : (p : Rule → Bool) (rs : List Rule) → ((r : Rule) → Contains rs r → r.after ≡ 0) → option_map_or (λ r. r.after) (find p rs) 1 ≡ cond (list_any p rs) 0 1
found_value p [] zero' = refl
found_value p (r ∷ rs) zero' =
    elim (cases_Bool (p r)) [
      | inl yes' ↦
          ap (λ o. option_map_or (λ (q : Rule). q.after) o 1) (cond-true (p r) (Some r) (find p rs) yes')
          ∙ zero' r (member_first r rs)
          ∙ sym (ap (λ b. cond (b || list_any p rs) 0 1) yes')
      | inr no' ↦
          ap (λ o. option_map_or (λ (q : Rule). q.after) o 1) (cond-false (p r) (Some r) (find p rs) no')
          ∙ found_value p rs (λ q in'. zero' q (member_later r q rs in'))
          ∙ sym (ap (λ b. cond (b || list_any p rs) 0 1) no')
    ]

zero_test : (b : Bool) → eqb (cond b 0 1) 0 ≡ b
zero_test true = refl
zero_test false = refl

module _ (reached : Reached) (lawful : IsLawful reached) (cover : Cover) (ok : MakesVariables reached cover) (mutexes : List (List ℕ)) (layers : List ℕ) (task : Task) (encoding : IsEncoding cover mutexes layers reached task) (valid : IsValid task) where
  abbrev n : ℕ
  n = length cover

  abbrev derived : ℕ → Bool
  derived = is_derived reached.facts

  abbrev one_goal : Bool
  one_goal = in_one cover mutexes layers reached task encoding

  -- whether a rule for the variable fires
  abbrev fires_for : List ℕ → ℕ → Rule → Bool
  fires_for now var r = eqb r.var var && all_hold now r.conditions

  -- the default of a derived variable is 1
  default_is : (var layer : ℕ) → var < length task.variables → layer_of task var ≡ Some layer → default_of task var ≡ 1
  default_is var layer below is =
      elim (cases_lt var n) [
        | inl low ↦
            let over = over_by_layer reached cover ok mutexes layers task encoding var layer low is in
            start_at cover mutexes layers reached task encoding var low
            ∙ ap (λ set. position_or_len (initial (reached_task reached)) set) over.alone
            ∙ value_single (initial (reached_task reached)) over.fact
            ∙ cond-false (initial (reached_task reached) over.fact) 0 1 (starts_plain reached cover ok lawful over.fact over.is)
        | inr past ↦
            let last = last_variable cover mutexes layers reached task encoding var past below in
            ap (λ v. get_or task.state v 0) last.1 ∙ start_last cover mutexes layers reached task encoding last.0
      ]

  -- what the goal's split says of the goal
  module _ (full : State ℕ) (one : AreExclusive cover full) (now : List ℕ) (shows : Shows cover full now) where
    goal_on : (g : GoalRow ℕ) → IsLawfulGoal reached g → goal_holds full g ≡ true → (m : List Pair) × Contains (goal_split cover g) m × (all_hold now m ≡ true)
    goal_on goals.Never names is = absurd (false≢true is)
    goal_on (goals.All literals) names is = split_on cover full one now shows literals (literals_stand reached cover ok literals names) is

    goal_back : (g : GoalRow ℕ) → IsLawfulGoal reached g → (m : List Pair) → Contains (goal_split cover g) m → all_hold now m ≡ true → goal_holds full g ≡ true
    goal_back goals.Never names m none hold = absurd (no_member m none)
    goal_back (goals.All literals) names m in' hold = split_back cover full one now shows literals (literals_stand reached cover ok literals names) m in' hold

    -- a rule for a derived fact's variable fires exactly where some axiom gives the fact
    derived_fires : (var : ℕ) → var < n → (over : OverDerived reached cover ok var) → list_any (fires_for now var) task.rules ≡ list_any (gives (reached_task reached) full over.fact) (map axiom_row reached.axioms)
    derived_fires var below over = same_tests _ _ there back
      where
        there : list_any (fires_for now var) task.rules ≡ true → list_any (gives (reached_task reached) full over.fact) (map axiom_row reached.axioms) ≡ true
        there h =
            let r = any_member (fires_for now var) task.rules h in
            let parts = and_parts (eqb r.0.var var) (all_hold now r.0.conditions) r.2 in
            let on = eqb-true r.0.var var parts.0 in
            elim (rule_from cover mutexes layers reached task encoding r.0 r.1) [
              | inl from ↦
                  let a = from.axiom' in
                  let law = lawful_axiom reached lawful a from.of_task in
                  let at = place_is cover a.fact from.place from.at in
                  let same-var : from.place.var ≡ var = ap (λ (q : Rule). q.var) from.is ∙ on in
                  let in-var : Contains (set_of cover var) a.fact = subst (λ w. Contains (set_of cover w) a.fact) same-var at.member in
                  let same : over.fact ≡ a.fact = member_single over.fact a.fact (subst (λ l. Contains l a.fact) over.alone in-var) in
                  let hold : all_hold now from.member ≡ true = subst (λ (q : Rule). all_hold now q.conditions ≡ true) (sym from.is) parts.1 in
                  let body = split_back cover full one now shows a.condition (literals_stand reached cover ok a.condition law.literals) from.member from.in_split hold in
                  member_any (gives (reached_task reached) full over.fact) (map axiom_row reached.axioms) (axiom_row a) (member_map axiom_row reached.axioms a from.of_task) (and_from _ _ (eq-eqb a.fact over.fact (sym same)) body)
              | inr from ↦
                  let is-n : n ≡ var = ap (λ (q : Rule). q.var) from.is ∙ on in
                  absurd (omega arith)
            ]

        back : list_any (gives (reached_task reached) full over.fact) (map axiom_row reached.axioms) ≡ true → list_any (fires_for now var) task.rules ≡ true
        back h =
            let row = any_member (gives (reached_task reached) full over.fact) (map axiom_row reached.axioms) h in
            let a = map_member axiom_row reached.axioms row.0 row.1 in
            let law = lawful_axiom reached lawful a.0 a.1 in
            let given : gives (reached_task reached) full over.fact (axiom_row a.0) ≡ true = subst (λ r. gives (reached_task reached) full over.fact r ≡ true) (sym a.2) row.2 in
            let parts = and_parts (eqb a.0.fact over.fact) (holds full a.0.condition) given in
            let m = split_on cover full one now shows a.0.condition (literals_stand reached cover ok a.0.condition law.literals) parts.1 in
            let in-var : Contains (set_of cover var) a.0.fact = subst (λ f. Contains (set_of cover var) f) (sym (eqb-true a.0.fact over.fact parts.0)) (subst (λ l. Contains l over.fact) (sym over.alone) (member_first over.fact [])) in
            member_any (fires_for now var) task.rules (rule var m.0) (axiom_rule cover mutexes layers reached task encoding a.0 a.1 (place_in cover a.0.fact var) (place_at cover a.0.fact var below in-var) m.0 m.1) (and_from _ _ (eq-eqb var var refl) m.2)

    -- a rule for the goal's variable fires exactly where the goal holds
    goal_fires : one_goal ≡ false → list_any (fires_for now n) task.rules ≡ goal_holds full reached.goal
    goal_fires parted = same_tests _ _ there back
      where
        there : list_any (fires_for now n) task.rules ≡ true → goal_holds full reached.goal ≡ true
        there h =
            let r = any_member (fires_for now n) task.rules h in
            let parts = and_parts (eqb r.0.var n) (all_hold now r.0.conditions) r.2 in
            elim (rule_from cover mutexes layers reached task encoding r.0 r.1) [
              | inl from ↦
                  let a = from.axiom' in
                  let low = (place_is cover a.fact from.place from.at).below in
                  let is-n : from.place.var ≡ n = ap (λ (q : Rule). q.var) from.is ∙ eqb-true r.0.var n parts.0 in
                  absurd (omega arith)
              | inr from ↦ goal_back reached.goal lawful.goal from.member from.in_split (subst (λ (q : Rule). all_hold now q.conditions ≡ true) (sym from.is) parts.1)
            ]

        back : goal_holds full reached.goal ≡ true → list_any (fires_for now n) task.rules ≡ true
        back h =
            let m = goal_on reached.goal lawful.goal h in
            member_any (fires_for now n) task.rules (rule n m.0) (goal_rule cover mutexes layers reached task encoding parted m.0 m.1) (and_from _ _ (eq-eqb n n refl) m.2)

  -- the values that a state shows: each variable its true fact or its last value, and the goal's its default
  abbrev pub shown : State ℕ → ℕ → ℕ
  shown state var = cond (ltb var n) (value_in cover state var) 1

  pub shown_low : (state : State ℕ) (var : ℕ) → var < n → shown state var ≡ value_in cover state var
  shown_low state var low = cond-true (ltb var n) (value_in cover state var) 1 (lt-ltb var n low)

  pub shown_past : (state : State ℕ) (var : ℕ) → n ≤ var → shown state var ≡ 1
  shown_past state var past = cond-false (ltb var n) (value_in cover state var) 1 (le-ltb var n past)

  -- a vector of the task that shows a state without derived facts
  module _ (state : State ℕ) (one-state : AreExclusive cover state) (plain : (f : ℕ) → derived f ≡ true → state f ≡ false) (vector : List ℕ) (lists : Lists (length task.variables) (shown state) vector) where
    low_at : (var : ℕ) → var < n → get_or vector var 0 ≡ value_in cover state var
    low_at var low = lists.at var (within cover mutexes layers reached task encoding var low) ∙ shown_low state var low

    -- a derived variable's completed value
    completed : (now : List ℕ) → Completes task vector now → (var layer : ℕ) → var < length task.variables → layer_of task var ≡ Some layer → get_or now var 0 ≡ cond (list_any (fires_for now var) task.rules) 0 1
    completed now completes var layer below is =
        completes.derived var layer (subst (λ k. var < k) (sym lists.count) below) is
        ∙ ap (λ d. option_map_or (λ (r : Rule). r.after) (firing_rule task now var) d) (default_is var layer below is)
        ∙ found_value (fires_for now var) task.rules (rule_after cover mutexes layers reached task encoding)

    -- with the state's full facts
    module _ (full : State ℕ) (is-full : IsFull (meaning (reached_task reached)) state full) where
      one_full : AreExclusive cover full
      one_full = exclusive_full reached cover ok state full one-state is-full.basic

      -- the full facts' values, and the goal's
      full_value : ℕ → ℕ
      full_value var = cond (ltb var n) (value_in cover full var) (cond (goal_holds full reached.goal) 0 1)

      full_vector : List ℕ
      full_vector = map full_value (range_with_len 0 (length task.variables))

      full_at : (var : ℕ) → var < length task.variables → get_or full_vector var 0 ≡ full_value var
      unfolding full_vector
      full_at var below = get_or-map-range_with_len full_value 0 (length task.variables) var var 0 below (omega arith)

      full_low : (var : ℕ) → var < n → get_or full_vector var 0 ≡ value_in cover full var
      unfolding full_value
      full_low var low = full_at var (within cover mutexes layers reached task encoding var low) ∙ cond-true (ltb var n) (value_in cover full var) (cond (goal_holds full reached.goal) 0 1) (lt-ltb var n low)

      full_past : (var : ℕ) → n ≤ var → var < length task.variables → get_or full_vector var 0 ≡ cond (goal_holds full reached.goal) 0 1
      unfolding full_value
      full_past var past below = full_at var below ∙ cond-false (ltb var n) (value_in cover full var) (cond (goal_holds full reached.goal) 0 1) (le-ltb var n past)

      rule_value : (var layer : ℕ) → var < length task.variables → layer_of task var ≡ Some layer → get_or full_vector var 0 ≡ cond (list_any (fires_for full_vector var) task.rules) 0 1
      rule_value var layer below is =
          elim (cases_lt var n) [
            | inl low ↦
                let over = over_by_layer reached cover ok mutexes layers task encoding var layer low is in
                full_low var low
                ∙ ap (λ set. position_or_len full set) over.alone
                ∙ value_single full over.fact
                ∙ ap (λ b. cond b 0 1) (is-full.derived over.fact over.is ∙ sym (derived_fires full one_full full_vector full_low var low over))
            | inr past ↦
                let last = last_variable cover mutexes layers reached task encoding var past below in
                full_past var past below
                ∙ ap (λ b. cond b 0 1) (sym (goal_fires full one_full full_vector full_low last.0))
                ∙ ap (λ v. cond (list_any (fires_for full_vector v) task.rules) 0 1) (sym last.1)
          ]

      full_completes : Completes task vector full_vector
      unfolding full_vector
      full_completes =
          record {
            count = length-map-range_with_len full_value 0 (length task.variables) ∙ sym lists.count;
            basic = λ var below is.
                let within' : var < length task.variables = subst (λ k. var < k) lists.count below in
                elim (cases_lt var n) [
                  | inl low ↦
                      let over = basic_by_layer reached cover ok mutexes layers task encoding var low is in
                      full_low var low ∙ same_place full state (set_of cover var) (λ g in'. is-full.basic g (over g in')) ∙ sym (low_at var low)
                  | inr past ↦
                      let last = last_variable cover mutexes layers reached task encoding var past within' in
                      absurd (none-some (layer_above reached layers) (sym is ∙ ap (layer_of task) last.1 ∙ layer_last cover mutexes layers reached task encoding last.0))
                ];
            derived = λ var layer below is.
                let within' : var < length task.variables = subst (λ k. var < k) lists.count below in
                rule_value var layer within' is
                ∙ sym (found_value (fires_for full_vector var) task.rules (rule_after cover mutexes layers reached task encoding))
                ∙ ap (λ d. option_map_or (λ (r : Rule). r.after) (firing_rule task full_vector var) d) (sym (default_is var layer within' is));
          }

      values_full : full_vector ≡ values task vector
      values_full = values_only task valid vector lists.count full_vector full_completes

      pub values_show : Shows cover full (values task vector)
      values_show var low = ap (λ l. get_or l var 0) (sym values_full) ∙ full_low var low

      -- the goal's pairs hold in the values exactly where the goal holds in the full facts
      pub goal_meets : goal_holds full reached.goal ≡ all_hold (values task vector) task.goal
      goal_meets =
          elim (cases_Bool one_goal) [
            | inl is ↦ in_whole (goal_split cover reached.goal) refl is
            | inr is ↦
                let below = last_below cover mutexes layers reached task encoding is in
                sym (zero_test (goal_holds full reached.goal))
                ∙ ap (λ k. eqb k 0) (sym (full_past n (omega arith) below) ∙ ap (λ l. get_or l n 0) values_full)
                ∙ sym (and-true (eqb (get_or (values task vector) n 0) 0))
                ∙ ap (all_hold (values task vector)) (sym (goal_parted cover mutexes layers reached task encoding is))
          ]
        where
          in_whole : (ms : List (List Pair)) → goal_split cover reached.goal ≡ ms → one_goal ≡ true → goal_holds full reached.goal ≡ all_hold (values task vector) task.goal
          in_whole [] is whole' = absurd (false≢true (ap (λ l. eqb (length l) 1) (sym is) ∙ whole'))
          in_whole (m ∷ []) is whole' =
              let goal-is : task.goal ≡ m = goal_whole cover mutexes layers reached task encoding whole' ∙ ap (flat_map (λ m. m)) is ∙ append-nil m in
              same_tests _ _
              (λ h.
              let found = goal_on full one_full (values task vector) values_show reached.goal lawful.goal h in
              subst (λ l. all_hold (values task vector) l ≡ true) (sym (goal-is ∙ member_single m found.0 (subst (λ l. Contains l found.0) is found.1))) found.2)
              (λ h. goal_back full one_full (values task vector) values_show reached.goal lawful.goal m (subst (λ l. Contains l m) (sym is) (member_first m [])) (subst (λ l. all_hold (values task vector) l ≡ true) goal-is h))
          in_whole (m ∷ k ∷ ms) is whole' = let two : suc (suc (length ms)) ≡ 1 = eqb-true (length (m ∷ k ∷ ms)) 1 (ap (λ l. eqb (length l) 1) (sym is) ∙ whole') in absurd (omega arith)

    -- the full facts that the values show
    abbrev pub read : State ℕ
    read f = cond (derived f) (eqb (get_or (values task vector) (first cover f).var 0) 0) (state f)

    read_basic : (f : ℕ) → derived f ≡ false → read f ≡ state f
    read_basic f is = cond-false (derived f) (eqb (get_or (values task vector) (first cover f).var 0) 0) (state f) is

    read_derived : (f : ℕ) → derived f ≡ true → read f ≡ eqb (get_or (values task vector) (first cover f).var 0) 0
    read_derived f is = cond-true (derived f) (eqb (get_or (values task vector) (first cover f).var 0) 0) (state f) is

    completes : Completes task vector (values task vector)
    completes = values_complete task valid vector lists.count

    -- a derived fact's first place is in its variable
    first_of : (var f : ℕ) → var < n → Contains (set_of cover var) f → derived f ≡ true → (first cover f).var ≡ var
    first_of var f low in' is = only_place reached cover ok var f low in' is (first cover f) (first_in cover f (stands reached cover ok f (ok.has_all.are_facts var f low in')))

    read_value : (var : ℕ) → (low : var < n) → (over : OverDerived reached cover ok var) → get_or (values task vector) var 0 ≡ cond (list_any (fires_for (values task vector) var) task.rules) 0 1
    read_value var low over =
        let layer = layer_of_derived reached cover ok mutexes layers task encoding var low over in
        completed (values task vector) completes var layer.0 (within cover mutexes layers reached task encoding var low) layer.1

    read_shows : Shows cover read (values task vector)
    read_shows var low =
        elim (kind reached cover ok var low) [
          | inl over ↦
              let value = read_value var low over in
              let at : read over.fact ≡ list_any (fires_for (values task vector) var) task.rules =
              read_derived over.fact over.is ∙ ap (λ v. eqb (get_or (values task vector) v 0) 0) (first_of var over.fact low (subst (λ l. Contains l over.fact) (sym over.alone) (member_first over.fact [])) over.is) ∙ ap (λ k. eqb k 0) value ∙ zero_test (list_any (fires_for (values task vector) var) task.rules) in
              value ∙ ap (λ b. cond b 0 1) (sym at) ∙ sym (value_single read over.fact) ∙ ap (λ set. position_or_len read set) (sym over.alone)
          | inr over ↦
              completes.basic var (subst (λ k. var < k) (sym lists.count) (within cover mutexes layers reached task encoding var low)) (layer_of_basic reached cover ok mutexes layers task encoding var low over)
              ∙ low_at var low
              ∙ same_place state read (set_of cover var) (λ g in'. sym (read_basic g (over g in')))
        ]

    pub read_full : IsFull (meaning (reached_task reached)) state read
    read_full =
        record {
          basic = read_basic;
          derived = λ f is.
              let v = ok.has_all.covered f (derived_below reached.facts f is) in
              let over : OverDerived reached cover ok v.0 = record { fact = f; alone = ok.alone v.0 f v.1 v.2 is; is = is } in
              read_derived f is
              ∙ ap (λ w. eqb (get_or (values task vector) w 0) 0) (first_of v.0 f v.1 v.2 is)
              ∙ ap (λ k. eqb k 0) (read_value v.0 v.1 over)
              ∙ zero_test (list_any (fires_for (values task vector) v.0) task.rules)
              ∙ derived_fires read (exclusive_full reached cover ok state read one-state read_basic) (values task vector) read_shows v.0 v.1 over;
        }
