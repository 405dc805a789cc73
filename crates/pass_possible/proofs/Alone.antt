-- The possible operators and values meet the condition of the law.
use Rattle.std.proofs.Common.{◌≡◌, ℕ, ◌<◌, true, ◌&&◌, eqb, List, length, get_or, refl, sym, subst, inl}
use Rattle.std.specs.List.{Contains, list_any, filter, range_with_len}
use Rattle.std.proofs.lemmas.Bool.{eq-eqb, and_parts, and_from, or_left, or_right}
use Rattle.std.proofs.lemmas.Option.{none-some}
use Rattle.std.proofs.lemmas.List.Elements.{All-contains}
use Rattle.std.proofs.lemmas.List.Kept.{IsStrictlyIncreasing-filter}
use Rattle.lists.specs.Members.{is_among}
use Rattle.lists.proofs.Members.{no_member, each_passes, range_member, member_range, all_from_members, member_filter, filter_member, member_any}
use Rattle.sas_task.specs.declared.parts.Pair.{Pair}
use Rattle.sas_task.specs.declared.parts.Effect.{Effect}
use Rattle.sas_task.specs.declared.parts.Operator.{Operator}
use Rattle.sas_task.specs.Task.{Task}
use Rattle.sas_task.specs.Pairs.{pair}
use Rattle.sas_task.specs.Valid.{IsValid, IsValue, IsFact}
use Rattle.sas_task.specs.Values.{values}
use Rattle.sas_task.specs.Solution.{Step, IsReachable}
use Rattle.sas_task.proofs.States.{reachable_is_state}
use Rattle.sas_task.proofs.ValidParts.{effect_law}
use Rattle.sas_restriction.specs.Choice.{IsChoice, all_left}
use Rattle.sas_restriction.specs.Everything.{all_values}
use Rattle.sas_restriction.specs.MayStand.{MayStand, TellsAll}
use Rattle.sas_restriction.proofs.Numbers as numbers
use Rattle.sas_restriction.proofs.Told.{may_where_told}
use Rattle.sas_restriction.proofs.AllValues.{range_once, value_member, member_value}
use Rattle.pass_possible.specs.Possible.{is_plain, Pairs, HasPossible, is_possible}
use Rattle.pass_possible.specs.Pruned.{is_wanted, possible_alone}
use Rattle.pass_possible.proofs.Reached.{Plain, plain_parts, plain_values, reachable_pairs, step_possible}
use Rattle.lists.proofs.Ordered.{range_increasing}

module _ (T : Task) (valid : IsValid T) (is-plain : is_plain T ≡ true) (pairs : Pairs) (closed : HasPossible T pairs) where
  plain : Plain T
  plain = plain_parts T is-plain

  abbrev wanted : ℕ → List ℕ
  wanted v = filter (is_wanted pairs T v) (all_values T v)

  -- a possible value is left
  possible_left : (v x : ℕ) → IsValue T v x → pairs (pair v x) (pair v x) ≡ true → Contains (wanted v) x
  possible_left v x value possible =
      member_filter (is_wanted pairs T v) (all_values T v) x (value_member T v x value)
      (or_left (pairs (pair v x) (pair v x)) (list_any (λ (p : Pair). eqb p.var v && eqb p.val x) T.goal) possible)

  goal_left : (p : Pair) → Contains T.goal p → Contains (wanted p.var) p.val
  goal_left p in' =
      member_filter (is_wanted pairs T p.var) (all_values T p.var) p.val (value_member T p.var p.val (All-contains (IsFact T) T.goal p valid.goal.facts in'))
      (or_right (pairs p p) (list_any (λ (q : Pair). eqb q.var p.var && eqb q.val p.val) T.goal)
      (member_any (λ (q : Pair). eqb q.var p.var && eqb q.val p.val) T.goal p in' (and_from (eqb p.var p.var) (eqb p.val p.val) (eq-eqb p.var p.var refl) (eq-eqb p.val p.val refl))))

  has : (s : List ℕ) → IsReachable T s → (v : ℕ) → v < length T.variables → Contains (wanted v) (get_or (values T s) v 0)
  has s reached v below =
      subst (λ xs. Contains (wanted v) (get_or xs v 0)) (sym (plain_values T valid plain pairs closed s))
      (possible_left v (get_or s v 0) ((reachable_is_state T valid s reached).in_range v below) ((reachable_pairs T valid plain pairs closed s reached).pairs v v below below))

  -- an operator with a step is possible
  pub stepping : (s : List ℕ) → IsReachable T s → (o : Operator) (t : List ℕ) → Step T s o t → is_possible pairs o ≡ true
  stepping s reached o t step = step_possible T valid plain pairs closed s (reachable_pairs T valid plain pairs closed s reached) o t step

  pub tells : TellsAll (possible_alone pairs T) T
  tells v below = inl (numbers.member_any v (range_with_len 0 (length T.variables)) (member_range (length T.variables) v below))

  -- what the effects of a possible operator set is left
  sets_left : (o : Operator) → Contains T.operators o → is_possible pairs o ≡ true → (e : Effect) → Contains o.effects e → Contains (wanted e.var) e.after
  sets_left o in-o possible e in-e = possible_left e.var e.after (effect_law T valid o in-o e in-e).value (closed.effects o e e in-o possible in-e in-e)

  pub choice : IsChoice (possible_alone pairs T) T
  choice =
      record {
        inside = all_from_members (λ v. v < length T.variables) (range_with_len 0 (length T.variables)) (λ v in'. range_member (length T.variables) v in');
        once = range_once (length T.variables);
        in_order = λ v below. IsStrictlyIncreasing-filter (is_wanted pairs T v) (all_values T v) (range_increasing _);
        are_values = λ v x below in'. member_value T v x (filter_member (is_wanted pairs T v) (all_values T v) x in').0;
        initial = λ v below. possible_left v (get_or T.state v 0) (valid.state v below) (closed.state (pair v (get_or T.state v 0)) (pair v (get_or T.state v 0)) (below, refl) (below, refl));
        by_rules = λ r in' stays. absurd (no_member r (subst (λ rs. Contains rs r) plain.no_rule in'));
        two_valued = tt;
        goal_left = λ none. each_passes (λ (p : Pair). is_among eqb (wanted p.var) p.val) T.goal (λ p in'. numbers.member_any p.val (wanted p.var) (goal_left p in'));
      }

  pub may : MayStand (possible_alone pairs T) T
  may =
      may_where_told (possible_alone pairs T) T valid tells has
      (λ s reached o in-o stays applicable e in-e fires. sets_left o in-o (and_parts (all_left (possible_alone pairs T) o.conditions) (is_possible pairs o) stays).1 e in-e)
      (λ start none. absurd (none-some start none))
      (λ s reached o t step busy. stepping s reached o t step)
