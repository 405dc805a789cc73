-- What the arcs of a task lead to from the variables of its goal are its relevant variables, and the operators that have an effect on one of them.
use Rattle.std.proofs.Common.{◌≡◌, ◌≢◌, ℕ, ◌+◌, ◌<◌, Bool, true, eqb, ltb, List, [], ◌++◌, map, filter, length, Option, Some, None, ◌⊎◌, refl, sym, ap, ◌∙◌, subst, inl, inr, arith}
use Rattle.std.specs.List.{Contains, All, slice_get, flat_map, range_with_len}
use Rattle.std.specs.Option.{option_map_or}
use Rattle.std.proofs.lemmas.Bool.{lt-ltb, ltb-true}
use Rattle.std.proofs.lemmas.Option.{same_Some, slice_get_within, slice_get-get_or}
use Rattle.std.proofs.lemmas.List.Elements.{All-contains, Contains-append_left, Contains-append_right, Contains-append_cases}
use Rattle.std.proofs.lemmas.List.Kept.{IsStrictlyIncreasing-filter}
use Rattle.lists.specs.Members.{is_among}
use Rattle.lists.proofs.Members.{no_member, member_first, member_later, member_cases, member_map, map_member, member_filter, filter_member, member_flat_map, flat_map_member, member_range, all_from_members, got_member}
use Rattle.sas_task.specs.declared.parts.Pair.{Pair}
use Rattle.sas_task.specs.declared.parts.Effect.{Effect}
use Rattle.sas_task.specs.declared.parts.Operator.{Operator}
use Rattle.sas_task.specs.declared.parts.Rule.{Rule}
use Rattle.sas_task.specs.Task.{Task}
use Rattle.sas_task.specs.Valid.{IsValid, IsFact}
use Rattle.sas_task.proofs.States.{is_variable}
use Rattle.sas_task.proofs.ValidParts.{operator_law, effect_law, rule_law}
use Rattle.sas_restriction.specs.Relevant.{HasInfluences, AreRelevant}
use Rattle.sas_restriction.proofs.Numbers.{any_member, member_any}
use Rattle.names.specs.declared.arcs.Arc.{Arc}
use Rattle.graph_search.specs.Reached.{IsReached, First, Next, AreReached}
use Rattle.pass_relevance.specs.Influences.{arc, arcs_to, arcs_of_effect, written, disagreements, arcs_of_operator, arcs_at, arcs_of_rule, influences}
use Rattle.pass_relevance.proofs.Disagreeing.{disagreeing, some_arc}

member_got : {X : Type 0} (xs : List X) (x : X) → Contains xs x → (i : ℕ) × (slice_get xs i ≡ Some x)
member_got xs x in' = (in'.0, slice_get-get_or xs in'.0 x in'.1 ∙ ap Some in'.2)

-- the ends of an arc
data IsInfluence (T : Task) : ℕ → ℕ → Type 0 where
  OfRule : (r : Rule) (p : Pair) → Contains T.rules r → Contains r.conditions p → IsInfluence T r.var p.var
  OfEffect : (o : Operator) (e : Effect) (p : Pair) → Contains T.operators o → Contains o.effects e → Contains e.conditions p → IsInfluence T e.var p.var
  ToOperator : (i : ℕ) (o : Operator) (e : Effect) → slice_get T.operators i ≡ Some o → Contains o.effects e → IsInfluence T e.var (length T.variables + i)
  OfOperator : (i : ℕ) (o : Operator) (p : Pair) → slice_get T.operators i ≡ Some o → Contains o.conditions p → IsInfluence T (length T.variables + i) p.var
  OfDisagreement : (i : ℕ) (o : Operator) (a b : Effect) → slice_get T.operators i ≡ Some o → Contains o.effects a → Contains o.effects b → a.var ≡ b.var → a.after ≢ b.after → IsInfluence T (length T.variables + i) a.var

module _ (T : Task) where
  abbrev count : ℕ
  count = length T.variables

  abbrev places : List ℕ
  places = range_with_len 0 (length T.operators)

  -- each arc is one of these
  of_operator : (i : ℕ) (o : Operator) → slice_get T.operators i ≡ Some o → (a : Arc) → Contains (arcs_of_operator (length T.variables + i) o) a → IsInfluence T a.from a.to
  of_operator i o at a in' =
      elim (Contains-append_cases (arcs_to (count + i) o.conditions ++ flat_map (arcs_of_effect (count + i)) o.effects) (disagreements (count + i) (written o.effects)) a in') [
        | inl front ↦ elim (Contains-append_cases (arcs_to (count + i) o.conditions) (flat_map (arcs_of_effect (count + i)) o.effects) a front) [
          | inl condition ↦
              let p = map_member (λ (p : Pair). arc (count + i) p.var) o.conditions a condition in
              subst (λ (b : Arc). IsInfluence T b.from b.to) p.2 (OfOperator i o p.0 at p.1)
          | inr effect ↦ let e = flat_map_member (arcs_of_effect (count + i)) o.effects a effect in of_effect e.0 e.1 (member_cases (arc e.0.var (count + i)) a (arcs_to e.0.var e.0.conditions) e.2)
        ]
        | inr two ↦
            let d = disagreeing (count + i) o.effects a two in
            subst (λ (b : Arc). IsInfluence T b.from b.to) (ap (arc (count + i)) d.2.is ∙ d.1) (OfDisagreement i o d.2.one d.2.two at d.2.in_one d.2.in_two d.2.same d.2.differ)
      ]
    where
      of_effect : (e : Effect) → Contains o.effects e → (arc e.var (count + i) ≡ a) ⊎ Contains (arcs_to e.var e.conditions) a → IsInfluence T a.from a.to
      of_effect e in-e (inl same) = subst (λ (b : Arc). IsInfluence T b.from b.to) same (ToOperator i o e at in-e)
      of_effect e in-e (inr later) =
          let p = map_member (λ (p : Pair). arc e.var p.var) e.conditions a later in
          subst (λ (b : Arc). IsInfluence T b.from b.to) p.2 (OfEffect o e p.0 (got_member T.operators i o at) in-e p.1)

  only : (a : Arc) → Contains (influences T) a → IsInfluence T a.from a.to
  only a in' =
      elim (Contains-append_cases (flat_map (arcs_at T) places) (flat_map arcs_of_rule T.rules) a in') [
        | inl operator ↦ let i = flat_map_member (arcs_at T) places a operator in of_place i.0 (slice_get T.operators i.0) refl i.2
        | inr rule ↦
            let r = flat_map_member arcs_of_rule T.rules a rule in
            let p = map_member (λ (p : Pair). arc r.0.var p.var) r.0.conditions a r.2 in
            subst (λ (b : Arc). IsInfluence T b.from b.to) p.2 (OfRule r.0 p.0 r.1 p.1)
      ]
    where
      of_place : (i : ℕ) (o : Option Operator) → slice_get T.operators i ≡ o → Contains (option_map_or (arcs_of_operator (count + i)) o []) a → IsInfluence T a.from a.to
      of_place i None at here = absurd (no_member a here)
      of_place i (Some o) at here = of_operator i o at a here

  -- and each of these is an arc
  at_place : (i : ℕ) (o : Operator) → slice_get T.operators i ≡ Some o → (a : Arc) → Contains (arcs_of_operator (count + i) o) a → Contains (influences T) a
  at_place i o at a in' =
      Contains-append_left (flat_map (arcs_at T) places) (flat_map arcs_of_rule T.rules) a
      (member_flat_map (arcs_at T) places i a (member_range (length T.operators) i (slice_get_within T.operators i o at))
      (subst (λ (found : Option Operator). Contains (option_map_or (arcs_of_operator (count + i)) found []) a) (sym at) in'))

  at_effect : (i : ℕ) (o : Operator) (e : Effect) → slice_get T.operators i ≡ Some o → Contains o.effects e → (a : Arc) → Contains (arcs_of_effect (count + i) e) a → Contains (influences T) a
  at_effect i o e at in-e a in' =
      at_place i o at a
      (Contains-append_left (arcs_to (count + i) o.conditions ++ flat_map (arcs_of_effect (count + i)) o.effects) (disagreements (count + i) (written o.effects)) a
      (Contains-append_right (arcs_to (count + i) o.conditions) (flat_map (arcs_of_effect (count + i)) o.effects) a (member_flat_map (arcs_of_effect (count + i)) o.effects e a in-e in')))

  each : (from to : ℕ) → IsInfluence T from to → Contains (influences T) (arc from to)
  each from to (OfRule r p in-r in-p) =
      Contains-append_right (flat_map (arcs_at T) places) (flat_map arcs_of_rule T.rules) (arc r.var p.var)
      (member_flat_map arcs_of_rule T.rules r (arc r.var p.var) in-r (member_map (λ (q : Pair). arc r.var q.var) r.conditions p in-p))
  each from to (OfEffect o e p in-o in-e in-p) =
      let i = member_got T.operators o in-o in
      at_effect i.0 o e i.1 in-e (arc e.var p.var) (member_later (arc e.var (count + i.0)) (arc e.var p.var) (arcs_to e.var e.conditions) (member_map (λ (q : Pair). arc e.var q.var) e.conditions p in-p))
  each from to (ToOperator i o e at in-e) = at_effect i o e at in-e (arc e.var (count + i)) (member_first (arc e.var (count + i)) (arcs_to e.var e.conditions))
  each from to (OfOperator i o p at in-p) =
      at_place i o at (arc (count + i) p.var)
      (Contains-append_left (arcs_to (count + i) o.conditions ++ flat_map (arcs_of_effect (count + i)) o.effects) (disagreements (count + i) (written o.effects)) (arc (count + i) p.var)
      (Contains-append_left (arcs_to (count + i) o.conditions) (flat_map (arcs_of_effect (count + i)) o.effects) (arc (count + i) p.var) (member_map (λ (q : Pair). arc (count + i) q.var) o.conditions p in-p)))
  each from to (OfDisagreement i o a b at in-a in-b same differ) =
      at_place i o at (arc (count + i) a.var)
      (Contains-append_right (arcs_to (count + i) o.conditions ++ flat_map (arcs_of_effect (count + i)) o.effects) (disagreements (count + i) (written o.effects)) (arc (count + i) a.var) (some_arc (count + i) o.effects a b in-a in-b same differ))

  -- a number that arcs lead to, where a set has all that can influence the goal: a variable in the set, or an operator with an effect on one
  module _ (has : ℕ → Bool) (influences-has : HasInfluences T has) where
    record Belongs (number : ℕ) : Type 0 where
      variable : number < length T.variables → has number ≡ true
      operator : (i : ℕ) (o : Operator) → number ≡ length T.variables + i → slice_get T.operators i ≡ Some o → (e : Effect) × Contains o.effects e × (has e.var ≡ true)

    -- a variable in the set
    of_variable : (var : ℕ) → var < length T.variables → has var ≡ true → Belongs var
    of_variable var low is = record { variable = λ below. is; operator = λ i o same at. absurd (omega (arith, low, same)) }

    -- an operator with an effect on one
    of_effect_on : (i : ℕ) (o : Operator) (e : Effect) → slice_get T.operators i ≡ Some o → Contains o.effects e → has e.var ≡ true → Belongs (length T.variables + i)
    of_effect_on i o e at in-e is =
        record {
          variable = λ below. absurd (omega (arith, below));
          operator = λ j o' same at'.
              let one : i ≡ j = omega (arith, same) in
              let other : o ≡ o' = same_Some o o' (sym at ∙ ap (slice_get T.operators) one ∙ at') in
              (e, subst (λ (q : Operator). Contains q.effects e) other in-e, is);
        }

    module _ (valid : IsValid T) where
      low : (ps : List Pair) → All (IsFact T) ps → (p : Pair) → Contains ps p → p.var < length T.variables
      low ps facts p in' = is_variable T p.var p.val (All-contains (IsFact T) ps p facts in')

      belongs_next : (from to : ℕ) → IsInfluence T from to → Belongs from → Belongs to
      belongs_next from to (OfRule r p in-r in-p) belongs =
          let law = rule_law T valid r in-r in
          of_variable p.var (low r.conditions law.conditions.facts p in-p) (influences-has.rules r p in-r (belongs.variable (is_variable T r.var r.after law.value)) in-p)
      belongs_next from to (OfEffect o e p in-o in-e in-p) belongs =
          let law = effect_law T valid o in-o e in-e in
          of_variable p.var (low e.conditions law.conditions.facts p in-p) (influences-has.effects o e p in-o in-e (belongs.variable (is_variable T e.var e.after law.value)) in-p)
      belongs_next from to (ToOperator i o e at in-e) belongs =
          let law = effect_law T valid o (got_member T.operators i o at) e in-e in
          of_effect_on i o e at in-e (belongs.variable (is_variable T e.var e.after law.value))
      belongs_next from to (OfOperator i o p at in-p) belongs =
          let in-o = got_member T.operators i o at in
          let e = belongs.operator i o refl at in
          of_variable p.var (low o.conditions (operator_law T valid o in-o).conditions.facts p in-p) (influences-has.operators o e.0 p in-o e.1 e.2 in-p)
      belongs_next from to (OfDisagreement i o a b at in-a in-b same differ) belongs =
          let in-o = got_member T.operators i o at in
          let e = belongs.operator i o refl at in
          of_variable a.var (is_variable T a.var a.after (effect_law T valid o in-o a in-a).value) (influences-has.disagreements o e.0 a b in-o e.1 e.2 in-a in-b same differ)

      reached_belongs : (number : ℕ) → IsReached (map (λ (p : Pair). p.var) T.goal) (influences T) number → Belongs number
      reached_belongs number (First start in') =
          let p = map_member (λ (p : Pair). p.var) T.goal start in' in
          subst Belongs p.2 (of_variable p.0.var (low T.goal valid.goal.facts p.0 p.1) (influences-has.goal p.0 p.1))
      reached_belongs number (Next a from in') = belongs_next a.from a.to (only a in') (reached_belongs a.from from)

  module _ (valid : IsValid T) where
    goal_low : (p : Pair) → Contains T.goal p → p.var < length T.variables
    goal_low p in' = is_variable T p.var p.val (All-contains (IsFact T) T.goal p valid.goal.facts in')

    fact_low : (ps : List Pair) → All (IsFact T) ps → (p : Pair) → Contains ps p → p.var < length T.variables + length T.operators
    fact_low ps facts p in' = let low = is_variable T p.var p.val (All-contains (IsFact T) ps p facts in') in omega (arith, low)

    -- the ends of arcs are variables and operators
    end_low : (from to : ℕ) → IsInfluence T from to → to < length T.variables + length T.operators
    end_low from to (OfRule r p in-r in-p) = fact_low r.conditions (rule_law T valid r in-r).conditions.facts p in-p
    end_low from to (OfEffect o e p in-o in-e in-p) = fact_low e.conditions (effect_law T valid o in-o e in-e).conditions.facts p in-p
    end_low from to (ToOperator i o e at in-e) = let within = slice_get_within T.operators i o at in omega (arith, within)
    end_low from to (OfOperator i o p at in-p) = fact_low o.conditions (operator_law T valid o (got_member T.operators i o at)).conditions.facts p in-p
    end_low from to (OfDisagreement i o a b at in-a in-b same differ) =
        let low = is_variable T a.var a.after (effect_law T valid o (got_member T.operators i o at) a in-a).value in
        omega (arith, low)

    module _ (found : List ℕ) (are : AreReached (length T.variables + length T.operators) (map (λ (p : Pair). p.var) T.goal) (influences T) found) where
      abbrev vars : List ℕ
      vars = filter (λ v. ltb v (length T.variables)) found

      abbrev Reached : ℕ → Type 0
      Reached = IsReached (map (λ (p : Pair). p.var) T.goal) (influences T)

      starts_low : All (λ v. v < length T.variables + length T.operators) (map (λ (p : Pair). p.var) T.goal)
      starts_low =
          all_from_members (λ v. v < length T.variables + length T.operators) (map (λ (p : Pair). p.var) T.goal) (λ v in'.
          let p = map_member (λ (p : Pair). p.var) T.goal v in' in
          let below : p.0.var < length T.variables = goal_low p.0 p.1 in
          subst (λ w. w < length T.variables + length T.operators) p.2 (omega (arith, below)))

      ends_low : All (λ (a : Arc). a.to < length T.variables + length T.operators) (influences T)
      ends_low = all_from_members (λ (a : Arc). a.to < length T.variables + length T.operators) (influences T) (λ a in'. end_low a.from a.to (only a in'))

      among : (v : ℕ) → v < length T.variables → Reached v → is_among eqb vars v ≡ true
      among v below reached = member_any v vars (member_filter (λ w. ltb w (length T.variables)) found v (are.each starts_low ends_low v reached) (lt-ltb v (length T.variables) below))

      reached_of : (v : ℕ) → is_among eqb vars v ≡ true → Reached v
      reached_of v is = are.only v (filter_member (λ w. ltb w (length T.variables)) found v (any_member v vars is)).0

      var_low : (v : ℕ) → is_among eqb vars v ≡ true → v < length T.variables
      var_low v is = ltb-true v (length T.variables) (filter_member (λ w. ltb w (length T.variables)) found v (any_member v vars is)).1

      step : (from to : ℕ) → IsInfluence T from to → Reached from → Reached to
      step from to influence reached = Next (arc from to) reached (each from to influence)

      -- the operator is reached from the variable of an effect
      operator_reached : (o : Operator) (e : Effect) → Contains o.effects e → is_among eqb vars e.var ≡ true → (i : ℕ) → slice_get T.operators i ≡ Some o → Reached (length T.variables + i)
      operator_reached o e in-e is i at = step e.var (length T.variables + i) (ToOperator i o e at in-e) (reached_of e.var is)

      closed : HasInfluences T (is_among eqb vars)
      closed =
          record {
            goal = λ p in'. among p.var (goal_low p in') (First p.var (member_map (λ (p : Pair). p.var) T.goal p in'));
            rules = λ r p in-r is in'.
                among p.var (is_variable T p.var p.val (All-contains (IsFact T) r.conditions p (rule_law T valid r in-r).conditions.facts in')) (step r.var p.var (OfRule r p in-r in') (reached_of r.var is));
            operators = λ o e p in-o in-e is in'.
                let i = member_got T.operators o in-o in
                among p.var (is_variable T p.var p.val (All-contains (IsFact T) o.conditions p (operator_law T valid o in-o).conditions.facts in'))
                (step (length T.variables + i.0) p.var (OfOperator i.0 o p i.1 in') (operator_reached o e in-e is i.0 i.1));
            effects = λ o e p in-o in-e is in'.
                among p.var (is_variable T p.var p.val (All-contains (IsFact T) e.conditions p (effect_law T valid o in-o e in-e).conditions.facts in')) (step e.var p.var (OfEffect o e p in-o in-e in') (reached_of e.var is));
            disagreements = λ o e a b in-o in-e is in-a in-b same differ.
                let i = member_got T.operators o in-o in
                among a.var (is_variable T a.var a.after (effect_law T valid o in-o a in-a).value)
                (step (length T.variables + i.0) a.var (OfDisagreement i.0 o a b i.1 in-a in-b same differ) (operator_reached o e in-e is i.0 i.1));
          }

      pub are_relevant : AreRelevant T (filter (λ v. ltb v (length T.variables)) found)
      are_relevant =
          record {
            sorted = IsStrictlyIncreasing-filter (λ v. ltb v (length T.variables)) found are.sorted;
            closed = closed;
            least = λ has influences-has v is. (reached_belongs has influences-has valid v (reached_of v is)).variable (var_low v is);
          }
