-- All values of a variable, and all variables.
use Rattle.std.proofs.Common.{◌≡◌, ◌≢◌, ℕ, ◌+◌, ◌<◌, ◌≤◌, true, eqb, ltb, List, [], map, filter, length, get_or, Option, Some, None, sym, ap, ◌∙◌, subst, inl, inr, arith}
use Rattle.std.specs.Prelude.{IsSomeAnd}
use Rattle.std.specs.List.{slice_get, Contains, All, AllPairs, list_all, range_with_len}
use Rattle.std.specs.List.Sorted.{IsStrictlyIncreasing}
use Rattle.std.specs.Option.{option_map_or}
use Rattle.std.proofs.Math.Path.{fun_ext}
use Rattle.std.proofs.lemmas.Bool.{cases_lt, lt-ltb, le-ltb}
use Rattle.std.proofs.lemmas.Option.{slice_get_past}
use Rattle.std.proofs.lemmas.List.{get_or_past}
use Rattle.std.proofs.lemmas.List.Elements.{All-contains}
use Rattle.std.proofs.lemmas.List.FromFn.{get_or-range_with_len, length-range_with_len, get_or-map-range_with_len, length-map-range_with_len}
use Rattle.sas_task.specs.declared.parts.Pair.{Pair}
use Rattle.sas_task.specs.declared.parts.Variable.{Variable}
use Rattle.sas_task.specs.Task.{Task}
use Rattle.sas_task.specs.Valid.{IsValid, IsValue, IsFact}
use Rattle.sas_task.proofs.ValidParts.{effect_law, rule_law}
use Rattle.lists.specs.Members.{is_among}
use Rattle.lists.proofs.Members.{member_range, range_member, each_passes, all_from_members, map_member}
use Rattle.sas_restriction.specs.Closed.{IsClosed}
use Rattle.sas_restriction.specs.Choice.{variable_at}
use Rattle.sas_restriction.specs.Listed.{chosen}
use Rattle.sas_restriction.specs.Everything.{all_values, everything_of, everything}
use Rattle.sas_restriction.proofs.Numbers.{member_any}
use Rattle.sas_restriction.proofs.Rising.{pass_before}
use Rattle.lists.proofs.Ordered.{range_increasing}

pub range_once : (n : ℕ) → AllPairs (λ v w. v ≢ w) (range_with_len 0 n)
range_once n i j d lt below =
    let below' : j < n = subst (λ m. j < m) (length-range_with_len 0 n) below in
    let at-i = get_or-range_with_len 0 n i d (omega arith) in
    let at-j = get_or-range_with_len 0 n j d below' in
    λ same. absurd (omega arith)

-- as many numbers of a range as a number says are below it
pub count_below : (n x : ℕ) → x ≤ n → length (filter (λ v. ltb v x) (range_with_len 0 n)) ≡ x
count_below n x within =
    pass_before (λ v. ltb v x) (range_with_len 0 n) x (subst (λ m. x ≤ m) (sym (length-range_with_len 0 n)) within) (
      λ k d from to. let at = get_or-range_with_len 0 n k d (omega arith) in lt-ltb (get_or (range_with_len 0 n) k d) x (omega (arith, at)),
      λ k d from to.
          let low : k < n = subst (λ m. k < m) (length-range_with_len 0 n) to in
          let at = get_or-range_with_len 0 n k d low in
          le-ltb (get_or (range_with_len 0 n) k d) x (omega (arith, at)),
    )

module _ (T : Task) where
  pub value_member : (v x : ℕ) → IsValue T v x → Contains (all_values T v) x
  value_member v x is = by_variable (slice_get T.variables v) is
    where
      by_variable : (o : Option Variable) → IsSomeAnd o (λ (u : Variable). x < length u.facts) → Contains (range_with_len 0 (length (option_map_or (λ (u : Variable). u) o (record { layer = None; facts = [] })).facts)) x
      by_variable None is = absurd is
      by_variable (Some u) is = member_range (length u.facts) x is

  pub member_value : (v x : ℕ) → Contains (all_values T v) x → IsValue T v x
  member_value v x in' = by_variable (slice_get T.variables v) (range_member (length (variable_at T v).facts) x in')
    where
      by_variable : (o : Option Variable) → x < length (option_map_or (λ (u : Variable). u) o (record { layer = None; facts = [] })).facts → IsSomeAnd o (λ (u : Variable). x < length u.facts)
      by_variable None is = absurd (omega arith)
      by_variable (Some u) is = is

  pub all_closed : IsValid T → IsClosed T (λ v x. Contains (all_values T v) x)
  all_closed valid =
      record {
        initial = λ v below. value_member v (get_or T.state v 0) (valid.state v below);
        by_effect = λ v val next has move.
            let law = effect_law T valid move.operator move.of_task move.effect move.of_operator in
            value_member v next (subst (λ w. IsValue T w next) move.on (subst (IsValue T move.effect.var) move.to law.value));
        by_rule = λ v val next has move.
            let law = rule_law T valid move.rule move.of_task in
            value_member v next (subst (λ w. IsValue T w next) move.on (subst (IsValue T move.rule.var) move.to law.value));
      }

  -- a value of a variable is left, and no facts need another value
  pub value_left : (v x : ℕ) → IsValue T v x → is_among eqb (all_values T v) x ≡ true
  value_left v x is = member_any x (all_values T v) (value_member v x is)

  pub facts_left : (ps : List Pair) → All (IsFact T) ps → list_all (λ (p : Pair). is_among eqb (all_values T p.var) p.val) ps ≡ true
  facts_left ps facts =
      each_passes (λ (p : Pair). is_among eqb (all_values T p.var) p.val) ps (λ p in'. value_left p.var p.val (All-contains (IsFact T) ps p facts in'))

  -- a value keeps its number
  pub value_stays : (v x : ℕ) → IsValue T v x → length (filter (λ w. ltb w x) (all_values T v)) ≡ x
  value_stays v x is =
      let below = range_member (length (variable_at T v).facts) x (value_member v x is) in
      count_below (length (variable_at T v).facts) x (omega (arith, below))

  pub no_values : (v : ℕ) → length T.variables ≤ v → all_values T v ≡ []
  no_values v past = ap (λ o. range_with_len 0 (length (option_map_or (λ (u : Variable). u) o (record { layer = None; facts = [] })).facts)) (slice_get_past T.variables v past)

  -- a list for each variable, written out
  pub listed_at : (list : ℕ → List ℕ) → ((v : ℕ) → length T.variables ≤ v → list v ≡ []) → (v : ℕ) → get_or (map list (range_with_len 0 (length T.variables))) v [] ≡ list v
  listed_at list none v =
      elim (cases_lt v (length T.variables)) [
        | inl below ↦ let e : 0 + v ≡ v = omega arith in get_or-map-range_with_len list 0 (length T.variables) v v [] below e
        | inr past ↦
            get_or_past (map list (range_with_len 0 (length T.variables))) v [] (subst (λ n. n ≤ v) (sym (length-map-range_with_len list 0 (length T.variables))) past)
            ∙ sym (none v past)
      ]

  pub chosen_is : (vars : List ℕ) → chosen (everything_of T vars) ≡ everything T vars
  chosen_is vars i = record { vars = vars; values = fun_ext (listed_at (all_values T) no_values) i; operators = λ o. true; holder = None }

  -- the lists are the task's variables', and rise
  pub all_within : (vars : List ℕ) → All (λ v. v < length T.variables) vars → All (λ v. v < length (everything_of T vars).values) vars
  all_within vars below = subst (λ n. All (λ v. v < n) vars) (sym (length-map-range_with_len (all_values T) 0 (length T.variables))) below

  pub all_rise : All IsStrictlyIncreasing (map (all_values T) (range_with_len 0 (length T.variables)))
  all_rise =
      all_from_members IsStrictlyIncreasing (map (all_values T) (range_with_len 0 (length T.variables))) (λ xs in'.
      let from = map_member (all_values T) (range_with_len 0 (length T.variables)) xs in' in
      subst IsStrictlyIncreasing from.2 (range_increasing (length (variable_at T from.0).facts)))
