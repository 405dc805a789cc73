-- An encoding is a valid task.
use Rattle.std.proofs.Common.{◌≡◌, ℕ, suc, ◌+◌, ◌<◌, ◌≤◌, Bool, true, false, cond, not, eqb, max, List, [], ◌∷◌, append-nil, map, length, get_or, Some, None, refl, sym, ap, ◌∙◌, subst, inl, inr, arith, length-append}
use Rattle.std.specs.Prelude.{◌^◌, IsSomeAnd, IsNone, IsSome, IfSome, fold}
use Rattle.std.specs.List.{Contains, All, filter, flat_map, range_with_len, list_any, position_or_len}
use Rattle.std.specs.Option.{option_map_or}
use Rattle.std.proofs.lemmas.Bool.{cases_Bool, cases_lt, cond-true, cond-false, leb-true, eqb-true, or_cases, both_ways}
use Rattle.std.proofs.lemmas.List.{length-map, get_or-map}
use Rattle.std.proofs.lemmas.List.Elements.{All-contains, All-append, All-cons, All-nil, Contains-get_or}
use Rattle.std.proofs.lemmas.List.Sums.{prefix_len-le-length}
use Rattle.std.proofs.lemmas.List.Sorted.{Contains-permutation, IsPermutation-sym}
use Rattle.sas_task.specs.declared.parts.Pair.{Pair}
use Rattle.sas_task.specs.declared.parts.Variable.{Variable}
use Rattle.sas_task.specs.declared.parts.Group.{Group}
use Rattle.sas_task.specs.declared.parts.Effect.{Effect}
use Rattle.sas_task.specs.declared.parts.Operator.{Operator}
use Rattle.sas_task.specs.declared.parts.Rule.{Rule}
use Rattle.sas_task.specs.Task.{Task}
use Rattle.sas_task.specs.Valid.{IsValid, IsValue, IsFact, AreConditions, IsValidVariable, IsValidGroup, IsValidEffect, IsValidOperator, IsBelow, IsValidRule, layer_of, default_of}
use Rattle.lists.proofs.Members.{no_member, member_first, member_cases, flat_map_member, member_range, range_member, all_from_members, map_member, filter_member, any_member, member_single}
use Rattle.ground_task.specs.declared.types.Cond.{Cond}
use Rattle.ground_task.specs.declared.types.GoalRow.{GoalRow}
use Rattle.ground_task.specs.declared.types.GoalRow.TheVariants as goals
use Rattle.ground_task.specs.Literals.{initial}
use Rattle.reached_task.specs.declared.types.Reached.{Reached}
use Rattle.reached_task.specs.declared.types.ReachedAction.{ReachedAction}
use Rattle.reached_task.specs.ReachedTask.{is_derived, reached_task}
use Rattle.sas_task.specs.Pairs.{pair}
use Rattle.fdr_effects.specs.Places.{Cover, set_of, first_place, stands_in, last_value, value_in}
use Rattle.fdr_effects.specs.Split.{is_looked_at, split}
use Rattle.fdr_encoder.specs.Operators.{among, can_go, less_known, less_idle, effects_left, is_of_use, simplified}
use Rattle.fdr_effects.specs.Effects.{effects_of}
use Rattle.reached_task.specs.Lawful.{NamesFacts, IsLawfulEffect, IsLawfulAction, IsLawfulGoal, IsLawful}
use Rattle.reached_task.specs.Layers.{Names, AreLayers}
use Rattle.fdr_encoder.specs.Encoding.{variable_over, goal_variable, goal_split, layer_above, rule, GoalPart, IsEncoding}
use Rattle.fdr_effects.specs.Groups.{group_of, groups_of}
use Rattle.fdr_encoder.specs.Covers.{MakesVariables, IsBasicGroup}
use Rattle.fdr_effects.proofs.Sets.{at_place}
use Rattle.fdr_effects.proofs.Placed.{place_is, first, first_in, first_is, stands_member}
use Rattle.fdr_encoder.proofs.SplitHolds.{combination_pairs, split_pairs}
use Rattle.fdr_encoder.proofs.OneStep.{effect_from}
use Rattle.fdr_encoder.proofs.Parts.{RuleFrom, rule_after, in_one, count, count_state, variable_at, layer_at, start_at, last_variable, variable_last, layer_last, start_last, goal_whole, goal_parted, rule_from, operator_from, is_whole, is_parted, part}
use Rattle.reached_task.proofs.OneLayers.{derived_below}
use Rattle.fdr_encoder.proofs.Standing.{lawful_axiom, value_single, stands, literals_stand, OverBasic, kind, layer_of_basic, starts_plain}
use Rattle.fdr_effects.proofs.Rising.{rising_filter, two_members}
use Rattle.fdr_effects.proofs.ByVariable.{member_rises}
use Rattle.fdr_effects.proofs.Grouped.{places_in, in_variable, group_in_order, first_in_group}
use Rattle.fdr_encoder.proofs.Texts.{variable_valid, goal_variable_valid}
use Rattle.fdr_encoder.proofs.LayersBelow.{layer_below, above_within}
use Rattle.lists.specs.Names.{IsName}

-- a fold by max is at least what each member gives
fold_max_start : (g : ℕ → ℕ) (xs : List ℕ) (start : ℕ) → start ≤ fold (λ n x. max n (g x)) start xs
fold_max_start g [] start = omega arith
fold_max_start g (x ∷ xs) start = let later = fold_max_start g xs (max start (g x)) in omega arith

fold_max_member : (g : ℕ → ℕ) (xs : List ℕ) (start x : ℕ) → Contains xs x → g x ≤ fold (λ n x. max n (g x)) start xs
fold_max_member g [] start x none = absurd (no_member x none)
fold_max_member g (y ∷ xs) start x in' =
    elim (member_cases y x xs in') [
      | inl same ↦ let here = fold_max_start g xs (max start (g y)) in let e = ap g same in omega arith
      | inr later ↦ fold_max_member g xs (max start (g y)) x later
    ]

module _ (reached : Reached) (lawful : IsLawful reached) (cover : Cover) (ok : MakesVariables reached cover) (mutexes : List (List ℕ)) (are-groups : All (IsBasicGroup reached) mutexes) (layers : List ℕ) (are-layers : AreLayers reached layers) (few : length reached.facts < 2 ^ 64) (task : Task) (encoding : IsEncoding cover mutexes layers reached task) where
  abbrev n : ℕ
  n = length cover

  abbrev derived : ℕ → Bool
  derived = is_derived reached.facts

  abbrev one_goal : Bool
  one_goal = in_one cover mutexes layers reached task encoding

  -- a variable's values are the positions in its set, and the last
  is_value : (var val : ℕ) → var < n → val < last_value cover var + 1 → IsValue task var val
  is_value var val low small =
      let long = length-append (map _ (set_of cover var)) _ in
      let size : length (variable_over reached layers (set_of cover var)).facts ≡ length (set_of cover var) + 1 = long ∙ ap (λ k. k + 1) (length-map (set_of cover var) _) in
      let below : val < length (variable_over reached layers (set_of cover var)).facts = omega arith in
      subst (λ o. IsSomeAnd o (λ v. val < length v.facts)) (sym (variable_at cover mutexes layers reached task encoding var low)) below

  is_goal_value : (val : ℕ) → val < 2 → one_goal ≡ false → IsValue task n val
  is_goal_value val two is = subst (λ o. IsSomeAnd o (λ v. val < length v.facts)) (sym (variable_last cover mutexes layers reached task encoding is)) two

  -- members of splits are conditions
  split_conditions : (literals : Cond ℕ) (m : List Pair) → Contains (split cover literals) m → AreConditions task m
  split_conditions literals m in' =
      record {
        facts = all_from_members (IsFact task) m (λ p p-in. let s = split_pairs cover literals m in' p p-in in is_value p.var p.val s.0 s.1);
        sorted = member_rises cover literals m in';
      }

  fewer_conditions : (keep : Pair → Bool) (ps : List Pair) → AreConditions task ps → AreConditions task (filter keep ps)
  fewer_conditions keep ps are =
      record {
        facts = all_from_members (IsFact task) (filter keep ps) (λ p p-in. All-contains (IsFact task) ps p are.facts (filter_member keep ps p p-in).0);
        sorted = rising_filter (λ p. p.var) keep ps are.sorted;
      }

  raw_effect : (a : ReachedAction) → IsLawfulAction reached a → (q : Effect) → Contains (effects_of cover a.effects) q → IsValidEffect task q
  raw_effect a law q in' =
      let from = effect_from cover a q in' in
      let small = from.small in
      let basic : derived from.effect.fact ≡ false = (All-contains (IsLawfulEffect reached) a.effects from.effect law.each_effect from.of_action).basic in
      let over' : OverBasic reached cover ok q.var = elim (kind reached cover ok q.var from.below) [
        | inl alone ↦
            let here = member_single alone.fact from.effect.fact (subst (λ l. Contains l from.effect.fact) alone.alone (stands_member cover from.effect.fact q.var from.stands_there)) in
            absurd (both_ways (derived from.effect.fact) basic (ap derived (sym here) ∙ alone.is))
        | inr basics ↦ basics
      ] in
      record {
        conditions = split_conditions from.literals q.conditions from.in_split;
        value = is_value q.var q.after from.below (omega arith);
        basic = subst IsNone (sym (layer_of_basic reached cover ok mutexes layers task encoding q.var from.below over')) refl;
      }

  simple_effect : (a : ReachedAction) → IsLawfulAction reached a → (m : List Pair) (q : Effect) → Contains (simplified cover m (effects_of cover a.effects)) q → IsValidEffect task q
  simple_effect a law m q in' =
      let left = effects_left m (effects_of cover a.effects) in
      let e = map_member (less_idle cover left) left q in' in
      let r = map_member (less_known m) (filter (is_of_use m) (effects_of cover a.effects)) e.0 e.1 in
      let was = raw_effect a law r.0 (filter_member (is_of_use m) (effects_of cover a.effects) r.0 r.1).0 in
      let known : IsValidEffect task e.0 = subst (IsValidEffect task) r.2 (record { conditions = fewer_conditions (λ p. not (among m p)) r.0.conditions was.conditions; value = was.value; basic = was.basic }) in
      subst (IsValidEffect task) e.2 (record { conditions = fewer_conditions (λ p. not (can_go cover left e.0 p)) e.0.conditions known.conditions; value = known.value; basic = known.basic })

  operator_valid : (o : Operator) → Contains task.operators o → IsValidOperator task o
  operator_valid o in' =
      let from = operator_from cover mutexes layers reached task encoding o in' in
      let a = from.action in
      let law = All-contains (IsLawfulAction reached) reached.actions a lawful.actions from.of_task in
      let raw = simplified cover from.member (effects_of cover a.effects) in
      record {
        name = subst IsName (sym from.same.name) law.name;
        conditions = subst (AreConditions task) (sym from.same.conditions) (split_conditions a.condition from.member from.in_split);
        effects = all_from_members (IsValidEffect task) o.effects (λ q q-in. simple_effect a law from.member q (Contains-permutation o.effects raw q (IsPermutation-sym raw o.effects from.same.effects) q-in));
        cost = subst (λ c. c ≤ 2147483647) (sym from.same.cost) law.small_cost;
        unit_cost = λ unit. from.same.cost ∙ law.unit_cost (sym encoding.metric ∙ unit);
      }

  -- a variable in a member of a split stands for a literal's fact
  looked_at : (literals : Cond ℕ) → NamesFacts reached literals → (m : List Pair) → Contains (split cover literals) m → (p : Pair) → Contains m p → (f : ℕ) × Names literals f × Contains (set_of cover p.var) f
  looked_at literals names m in' p p-in =
      let stand = literals_stand reached cover ok literals names in
      let r = combination_pairs cover literals (filter (is_looked_at cover literals) (range_with_len 0 n)) m in' p p-in in
      let is = (filter_member (is_looked_at cover literals) (range_with_len 0 n) p.var r.0).1 in
      elim (or_cases (list_any (λ f. stands_in cover f p.var) literals.positive) (list_any (λ f. option_map_or (λ q. eqb q.var p.var) (first_place cover f) false) literals.negative) is) [
        | inl pos ↦ let f = any_member (λ f. stands_in cover f p.var) literals.positive pos in (f.0, inl f.1, stands_member cover f.0 p.var f.2)
        | inr neg ↦
            let f = any_member (λ f. option_map_or (λ q. eqb q.var p.var) (first_place cover f) false) literals.negative neg in
            let standing = stand.negative f.0 f.1 in
            let here : (first cover f.0).var ≡ p.var = eqb-true (first cover f.0).var p.var (ap (λ o. option_map_or (λ (q : Pair). eqb q.var p.var) o false) (sym (first_is cover f.0 standing)) ∙ f.2) in
            (f.0, inr f.1, subst (λ v. Contains (set_of cover v) f.0) here (place_is cover f.0 (first cover f.0) (first_in cover f.0 standing)).member)
      ]

  -- a derived fact's variable has its layer
  layer_for : (var f : ℕ) → var < n → Contains (set_of cover var) f → derived f ≡ true → layer_of task var ≡ Some (get_or layers f 0)
  layer_for var f low in' is =
      let alone = ok.alone var f low in' is in
      let head : get_or (set_of cover var) 0 0 ≡ f = ap (λ l. get_or l 0 0) alone in
      layer_at cover mutexes layers reached task encoding var low
      ∙ ap (λ g. cond (derived g) (Some (get_or layers g 0)) None) head
      ∙ cond-true (derived f) (Some (get_or layers f 0)) None is

  -- a pair of a member is basic, or a derived literal's, whose layer is below
  pair_below : (literals : Cond ℕ) → NamesFacts reached literals → (m : List Pair) → Contains (split cover literals) m → (var layer : ℕ) → layer_of task var ≡ Some layer → ((f : ℕ) → Names literals f → derived f ≡ true → get_or layers f 0 < layer) → All (IsBelow task var) m
  pair_below literals names m in' var layer at below =
      all_from_members (IsBelow task var) m (λ p p-in.
      let f = looked_at literals names m in' p p-in in
      let low = (split_pairs cover literals m in' p p-in).0 in
      elim (kind reached cover ok p.var low) [
        | inl alone ↦
            let same : alone.fact ≡ f.0 = member_single alone.fact f.0 (subst (λ l. Contains l f.0) alone.alone f.2) in
            let is : derived f.0 ≡ true = ap derived (sym same) ∙ alone.is in
            let less = below f.0 f.1 is in
            subst (λ o. IfSome o (λ low. IsSomeAnd (layer_of task var) (λ high. low < high))) (sym (layer_for p.var f.0 low f.2 is)) (subst (λ o. IsSomeAnd o (λ high. get_or layers f.0 0 < high)) (sym at) less)
        | inr basics ↦ subst (λ o. IfSome o (λ low. IsSomeAnd (layer_of task var) (λ high. low < high))) (sym (layer_of_basic reached cover ok mutexes layers task encoding p.var low basics)) tt
      ])

  below_last : (f : ℕ) → derived f ≡ true → get_or layers f 0 < layer_above reached layers
  below_last f is =
      let below = derived_below reached.facts f is in
      let g = λ (x : ℕ). cond (derived x) (get_or layers x 0 + 1) 0 in
      let most = fold_max_member g (range_with_len 0 (length reached.facts)) 0 f (member_range (length reached.facts) f below) in
      let here : g f ≡ get_or layers f 0 + 1 = cond-true (derived f) (get_or layers f 0 + 1) 0 is in
      omega arith

  -- the written state shows the default of a derived variable
  default_low : (var f : ℕ) → var < n → Contains (set_of cover var) f → derived f ≡ true → default_of task var ≡ 1
  default_low var f low in' is =
      start_at cover mutexes layers reached task encoding var low
      ∙ ap (λ set. position_or_len (initial (reached_task reached)) set) (ok.alone var f low in' is)
      ∙ value_single (initial (reached_task reached)) f
      ∙ cond-false (initial (reached_task reached) f) 0 1 (starts_plain reached cover ok lawful f is)

  axiom_rule_valid : (r : Rule) → RuleFrom cover reached r → IsValidRule task r
  axiom_rule_valid r from =
      let a = from.axiom' in
      let law = lawful_axiom reached lawful a from.of_task in
      let below = derived_below reached.facts a.fact law.derived in
      let var = from.place.var in
      let place = place_is cover a.fact from.place from.at in
      let low = place.below in
      let stands-in = place.member in
      let at = layer_for var a.fact low stands-in law.derived in
      let within-layers : a.fact < length layers = subst (λ k. a.fact < k) (sym are-layers.count) below in
      subst (IsValidRule task) from.is (record {
        conditions = split_conditions a.condition from.member from.in_split;
        derived = subst IsSome (sym at) refl;
        value = is_value var 0 low (omega arith);
        default = sym (default_low var a.fact low stands-in law.derived);
        changes = λ e. absurd (omega arith);
        below = pair_below a.condition law.literals from.member from.in_split var (get_or layers a.fact 0) at (λ f named is.
            are-layers.above a.fact f within-layers (record { axiom' = a; of_task = from.of_task; for_fact = refl; named = named; derived = is }));
      })

  goal_conditions : (g : GoalRow ℕ) → IsLawfulGoal reached g → (m : List Pair) → Contains (goal_split cover g) m → AreConditions task m
  goal_conditions goals.Never names m none = absurd (no_member m none)
  goal_conditions (goals.All literals) names m in' = split_conditions literals m in'

  goal_below : (g : GoalRow ℕ) → IsLawfulGoal reached g → (m : List Pair) → Contains (goal_split cover g) m → one_goal ≡ false → All (IsBelow task n) m
  goal_below goals.Never names m none is = absurd (no_member m none)
  goal_below (goals.All literals) names m in' is =
      pair_below literals names m in' n (layer_above reached layers) (layer_last cover mutexes layers reached task encoding is) (λ f named derived. below_last f derived)

  rule_valid : (r : Rule) → Contains task.rules r → IsValidRule task r
  rule_valid r in' =
      elim (rule_from cover mutexes layers reached task encoding r in') [
        | inl from ↦ axiom_rule_valid r from
        | inr from ↦ subst (IsValidRule task) from.is (goal_case from.member from.in_split from.parted)
      ]
    where
      goal_case : (m : List Pair) → Contains (goal_split cover reached.goal) m → one_goal ≡ false → IsValidRule task (rule n m)
      goal_case m member is =
          record {
            conditions = goal_conditions reached.goal lawful.goal m member;
            derived = subst IsSome (sym (layer_last cover mutexes layers reached task encoding is)) refl;
            value = is_goal_value 0 (omega arith) is;
            default = sym (start_last cover mutexes layers reached task encoding is);
            changes = λ e. absurd (omega arith);
            below = goal_below reached.goal lawful.goal m member is;
          }

  abbrev takes_to_0 : (r : Rule) → Contains task.rules r → r.after ≡ 0
  takes_to_0 = rule_after cover mutexes layers reached task encoding

  goal_valid : AreConditions task task.goal
  goal_valid =
      elim (cases_Bool one_goal) [
        | inl is ↦ subst (AreConditions task) (sym (goal_whole cover mutexes layers reached task encoding is)) (in_whole (goal_split cover reached.goal) refl is)
        | inr is ↦
            subst (AreConditions task) (sym (goal_parted cover mutexes layers reached task encoding is))
            (record { facts = All-cons (IsFact task) (pair n 0) [] (is_goal_value 0 (omega arith) is) (All-nil (IsFact task)); sorted = λ k none. absurd (omega arith) })
      ]
    where
      in_whole : (ms : List (List Pair)) → goal_split cover reached.goal ≡ ms → one_goal ≡ true → AreConditions task (flat_map (λ m. m) ms)
      in_whole [] is one = record { facts = All-nil (IsFact task); sorted = λ k none. absurd (omega arith) }
      in_whole (m ∷ []) is one = subst (AreConditions task) (sym (append-nil m)) (goal_conditions reached.goal lawful.goal m (subst (λ l. Contains l m) (sym is) (member_first m [])))
      in_whole (m ∷ k ∷ ms) is one = let two : suc (suc (length ms)) ≡ 1 = eqb-true (length (m ∷ k ∷ ms)) 1 (ap (λ l. eqb (length l) 1) (sym is) ∙ one) in absurd (omega arith)

  group_pairs : (group : List ℕ) (p : Pair) → Contains (group_of cover group).facts p → (p.var < n) × (p.val < last_value cover p.var)
  group_pairs group p in' =
      let var = flat_map_member (places_in cover group) (range_with_len 0 n) p in' in
      let at = in_variable cover group var.0 p var.2 in
      (subst (λ v. v < n) (sym at.0) (range_member n var.0 var.1), subst (λ v. p.val < last_value cover v) (sym at.0) at.1)

  place_back : (f : ℕ) → f < length reached.facts → get_or (set_of cover (first cover f).var) (first cover f).val 0 ≡ f
  place_back f below =
      let p = first cover f in
      let at = place_is cover f p (first_in cover f (stands reached cover ok f below)) in
      ap (λ k. get_or (set_of cover p.var) k 0) (sym at.value) ∙ at_place (set_of cover p.var) f at.member 0

  place_listed : (group : List ℕ) (f : ℕ) → Contains group f → f < length reached.facts → Contains (group_of cover group).facts (first cover f)
  place_listed group f in' below = first_in_group cover group f (first cover f) in' (first_is cover f (stands reached cover ok f below))

  group_valid : (g : Group) → Contains task.groups g → IsValidGroup task g
  group_valid g g-in =
      let raw = map_member (group_of cover) (filter _ mutexes) g (Contains-permutation task.groups (groups_of cover mutexes) g (IsPermutation-sym (groups_of cover mutexes) task.groups encoding.groups) g-in) in
      let listed = filter_member _ mutexes raw.0 raw.1 in
      let law = All-contains (IsBasicGroup reached) mutexes raw.0 are-groups listed.0 in
      let large : 2 ≤ length raw.0 = leb-true 2 (length raw.0) listed.1 in
      subst (IsValidGroup task) raw.2 (record {
        facts = all_from_members (IsFact task) (group_of cover raw.0).facts (λ p p-in. let s = group_pairs raw.0 p p-in in let small = s.1 in is_value p.var p.val s.0 (omega arith));
        sorted = group_in_order cover raw.0;
        two_facts = two_of raw.0 large law;
      })
    where
      two_of : (group : List ℕ) → 2 ≤ length group → IsBasicGroup reached group → 2 ≤ length (group_of cover group).facts
      two_of group large law =
          let f = get_or group 0 0 in
          let g = get_or group 1 0 in
          let less : f < g = law.sorted 0 (omega arith) in
          let f-in : Contains group f = Contains-get_or group 0 0 (omega arith) in
          let g-in' : Contains group g = Contains-get_or group 1 0 (omega arith) in
          let f-below = All-contains (λ f. f < length reached.facts) group f law.facts f-in in
          let g-below = All-contains (λ f. f < length reached.facts) group g law.facts g-in' in
          two_members (group_of cover group).facts (first cover f) (first cover g) (place_listed group f f-in f-below) (place_listed group g g-in' g-below) (λ same.
          let e : f ≡ g = sym (place_back f f-below) ∙ ap (λ (p : Pair). get_or (set_of cover p.var) p.val 0) same ∙ place_back g g-below in
          absurd (omega arith))

  same_size : length task.state ≡ length task.variables
  same_size =
      elim (cases_Bool one_goal) [
        | inl is ↦ count_state cover mutexes layers reached task encoding ∙ ap (λ (p : GoalPart). n + length p.values) (is_whole cover mutexes layers reached task encoding is) ∙ sym (ap (λ (p : GoalPart). n + length p.variables) (is_whole cover mutexes layers reached task encoding is)) ∙ sym (count cover mutexes layers reached task encoding)
        | inr is ↦ count_state cover mutexes layers reached task encoding ∙ ap (λ (p : GoalPart). n + length p.values) (is_parted cover mutexes layers reached task encoding is) ∙ sym (ap (λ (p : GoalPart). n + length p.variables) (is_parted cover mutexes layers reached task encoding is)) ∙ sym (count cover mutexes layers reached task encoding)
      ]

  abbrev goal_variables : List Variable
  goal_variables = (part cover mutexes layers reached task encoding).variables

  goal_variables_valid : All IsValidVariable goal_variables
  goal_variables_valid =
      elim (cases_Bool one_goal) [
        | inl is ↦ subst (λ (p : GoalPart). All IsValidVariable p.variables) (sym (is_whole cover mutexes layers reached task encoding is)) (All-nil IsValidVariable)
        | inr is ↦ subst (λ (p : GoalPart). All IsValidVariable p.variables) (sym (is_parted cover mutexes layers reached task encoding is)) (All-cons IsValidVariable (goal_variable (layer_above reached layers)) [] (goal_variable_valid (layer_above reached layers) (let within = above_within reached layers are-layers in omega arith)) (All-nil IsValidVariable))
      ]

  small_layer : (f : ℕ) → f < length reached.facts → get_or layers f 0 < 2 ^ 64
  small_layer f below =
      let within : f < length layers = subst (λ m. f < m) (sym are-layers.count) below in
      let low = layer_below reached layers are-layers f within in
      omega arith

  sets_valid : All IsValidVariable (map (variable_over reached layers) cover)
  sets_valid k d inside =
      let low : k < n = subst (λ m. k < m) (length-map cover (variable_over reached layers)) inside in
      subst IsValidVariable (sym (get_or-map (variable_over reached layers) cover k [] d low)) (variable_valid reached lawful layers (set_of cover k) (λ is. small_layer (get_or (set_of cover k) 0 0) (derived_below reached.facts (get_or (set_of cover k) 0 0) is)) (ok.has_all.filled k low) (λ f in'. ok.has_all.are_facts k f low in'))

  state_valid : (var : ℕ) → var < length task.variables → IsValue task var (get_or task.state var 0)
  state_valid var below =
      elim (cases_lt var n) [
        | inl low ↦
            let small = prefix_len-le-length (λ f. not (initial (reached_task reached) f)) (set_of cover var) in
            subst (IsValue task var) (sym (start_at cover mutexes layers reached task encoding var low)) (is_value var (value_in cover (initial (reached_task reached)) var) low (omega arith))
        | inr past ↦
            let last = last_variable cover mutexes layers reached task encoding var past below in
            subst (λ v. IsValue task v (get_or task.state v 0)) (sym last.1) (subst (IsValue task n) (sym (start_last cover mutexes layers reached task encoding last.0)) (is_goal_value 1 (omega arith) last.0))
      ]

  pub encoding_is_valid : IsValid task
  encoding_is_valid =
      record {
        variables = subst (All IsValidVariable) (sym encoding.variables) (All-append IsValidVariable (map (variable_over reached layers) cover) goal_variables sets_valid goal_variables_valid);
        groups = all_from_members (IsValidGroup task) task.groups group_valid;
        one_value = same_size;
        state = state_valid;
        goal = goal_valid;
        operators = all_from_members (IsValidOperator task) task.operators operator_valid;
        rules = all_from_members (IsValidRule task) task.rules rule_valid;
        one_after = λ i j d before inside same.
            let low : i < length task.rules = omega arith in
            takes_to_0 (get_or task.rules i d) (Contains-get_or task.rules i d low) ∙ sym (takes_to_0 (get_or task.rules j d) (Contains-get_or task.rules j d inside));
      }
