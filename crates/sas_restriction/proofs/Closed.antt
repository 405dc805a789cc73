-- In a reachable state each variable has one of its values, derived variables too, where the values are closed.
use Rattle.std.proofs.Common.{◌≡◌, ◌≢◌, ℕ, ◌<◌, true, ◌&&◌, eqb, List, [], ◌∷◌, length, get_or, Option, Some, None, ◌⊎◌, refl, sym, ap, ◌∙◌, subst, inl, inr, arith}
use Rattle.std.specs.Prelude.{IfSome, IsSomeAnd, IsSome}
use Rattle.std.specs.List.{Contains}
use Rattle.std.specs.Option.{option_map_or}
use Rattle.std.proofs.lemmas.Bool.{eqb-true, and_parts, false≢true}
use Rattle.std.proofs.lemmas.Option.{same_Some, none-some}
use Rattle.std.proofs.lemmas.List.Elements.{All-contains}
use Rattle.sas_task.specs.declared.parts.Pair.{Pair}
use Rattle.sas_task.specs.declared.parts.Effect.{Effect}
use Rattle.sas_task.specs.declared.parts.Operator.{Operator}
use Rattle.sas_task.specs.declared.parts.Rule.{Rule}
use Rattle.runs.specs.Runs.{Leads}
use Rattle.sas_task.specs.Task.{Task}
use Rattle.sas_task.specs.Valid.{IsValid, IsValidEffect, IsBelow, layer_of, default_of}
use Rattle.sas_task.specs.Values.{all_hold, firing_rule, values}
use Rattle.sas_task.specs.Completion.{Completes}
use Rattle.sas_task.specs.Solution.{IsApplicable, Fires, Step, IsReachable}
use Rattle.lists.proofs.Members.{all_pass, all_from_members, find_found}
use Rattle.sas_task.proofs.Successors.{FiringOn, firing_or_none}
use Rattle.sas_task.proofs.Completion.{values_complete}
use Rattle.sas_task.proofs.States.{is_variable}
use Rattle.sas_task.proofs.ValidParts.{effect_law, rule_law, none_of}
use Rattle.sas_restriction.specs.Closed.{Leaves, IsClosed}

module _ (task : Task) (valid : IsValid task) (Has : ℕ → ℕ → Type 0) (closed : IsClosed task Has) where
  -- no condition of a rule is on its own variable
  pub not_on_itself : (r : Rule) (p : Pair) (layer : ℕ) → Contains task.rules r → Contains r.conditions p → layer_of task r.var ≡ Some layer → p.var ≢ r.var
  not_on_itself r p layer of-task in' is same =
      let law = rule_law task valid r of-task in
      let low = All-contains (IsBelow task r.var) r.conditions p law.below in' in
      let at = ap (layer_of task) same ∙ is in
      below (layer_of task p.var) (layer_of task r.var) at is low
    where
      below : (o o' : Option ℕ) → o ≡ Some layer → o' ≡ Some layer → IfSome o (λ low. IsSomeAnd o' (λ high. low < high)) → ⊥
      below None o' e e' low = absurd (none-some layer e)
      below (Some a) None e e' low = absurd (none-some layer e')
      below (Some a) (Some b) e e' low = let ea : a ≡ layer = same_Some a layer e in let eb : b ≡ layer = same_Some b layer e' in absurd (omega arith)

  abbrev pub AllHave : List ℕ → Type 0
  AllHave state = (var : ℕ) → var < length task.variables → Has var (get_or state var 0)

  pub values_have : (state : List ℕ) → length state ≡ length task.variables → AllHave state → AllHave (values task state)
  values_have state fits kept var below = by_layer (layer_of task var) refl
    where
      within : var < length state
      within = subst (λ n. var < n) (sym fits) below

      complete : Completes task state (values task state)
      complete = values_complete task valid state fits

      by_rule : (layer : ℕ) → layer_of task var ≡ Some layer → (o : Option Rule) → firing_rule task (values task state) var ≡ o → Has var (option_map_or (λ r. r.after) o (default_of task var))
      by_rule layer is None found = closed.initial var below
      by_rule layer is (Some r) found =
          let is-in = find_found (λ (r : Rule). eqb r.var var && all_hold (values task state) r.conditions) task.rules r found in
          let parts = and_parts (eqb r.var var) (all_hold (values task state) r.conditions) is-in.1 in
          let same : r.var ≡ var = eqb-true r.var var parts.0 in
          closed.by_rule var (get_or state var 0) r.after (kept var below)
          (record {
            rule = r;
            of_task = is-in.0;
            on = same;
            to = refl;
            leaves = λ p in' at. absurd (not_on_itself r p layer is-in.0 in' (ap (layer_of task) same ∙ is) (at ∙ sym same));
          })

      by_layer : (o : Option ℕ) → layer_of task var ≡ o → Has var (get_or (values task state) var 0)
      by_layer None is = subst (Has var) (sym (complete.basic var within is)) (kept var below)
      by_layer (Some layer) is = subst (Has var) (sym (complete.derived var layer within is)) (by_rule layer is (firing_rule task (values task state) var) refl)

  -- what a firing effect sets is kept
  pub fired_has : (state : List ℕ) (o : Operator) (e : Effect) → length state ≡ length task.variables → AllHave state → Contains task.operators o → IsApplicable task state o → Contains o.effects e → Fires task state e → Has e.var e.after
  fired_has state o e fits kept of-task applicable in' fires =
      closed.by_effect e.var (get_or state e.var 0) e.after (kept e.var below)
      (record {
        operator = o;
        effect = e;
        of_task = of-task;
        of_operator = in';
        on = refl;
        to = refl;
        leaves = leaves o.conditions applicable;
        leaves_too = leaves e.conditions fires;
      })
    where
      e-law : IsValidEffect task e
      e-law = effect_law task valid o of-task e in'

      within : e.var < length state
      within = subst (λ n. e.var < n) (sym fits) (is_variable task e.var e.after e-law.value)

      below : e.var < length task.variables
      below = subst (λ n. e.var < n) fits within

      same : get_or (values task state) e.var 0 ≡ get_or state e.var 0
      same = (values_complete task valid state fits).basic e.var within (none_of (layer_of task e.var) e-law.basic)

      leaves : (ps : List Pair) → all_hold (values task state) ps ≡ true → Leaves ps e.var (get_or state e.var 0)
      leaves ps holds p in'' at =
          let is : get_or (values task state) p.var 0 ≡ p.val = eqb-true (get_or (values task state) p.var 0) p.val (all_pass (λ (p : Pair). eqb (get_or (values task state) p.var 0) p.val) ps p holds in'') in
          sym is ∙ ap (λ v. get_or (values task state) v 0) at ∙ same

  pub step_has : (state next : List ℕ) (o : Operator) → length state ≡ length task.variables → AllHave state → Step task state o next → AllHave next
  step_has state next o fits kept step var below = by_cases (firing_or_none task state o.effects var)
    where
      within : var < length state
      within = subst (λ n. var < n) (sym fits) below

      by_cases : FiringOn task state o.effects var ⊎ ((e : Effect) → Contains o.effects e → Fires task state e → e.var ≢ var) → Has var (get_or next var 0)
      by_cases (inr none) =
          subst (Has var) (sym (step.successor.keeps var within (all_from_members (λ e. Fires task state e → e.var ≢ var) o.effects none))) (kept var below)
      by_cases (inl firing) =
          let e = firing.effect in
          let set : get_or next e.var 0 ≡ e.after = All-contains (λ q. Fires task state q → get_or next q.var 0 ≡ q.after) o.effects e step.successor.sets firing.listed firing.fires in
          subst (λ v. Has v (get_or next v 0)) firing.on (subst (Has e.var) (sym set) (fired_has state o e fits kept step.of_task step.applicable firing.listed firing.fires))

  leads_have : (steps : List Operator) (from to : List ℕ) → length from ≡ length task.variables → AllHave from → Leads (Step task) from steps to → (length to ≡ length task.variables) × AllHave to
  leads_have [] from to fits kept leads = (ap length leads ∙ fits, λ var below. subst (λ s. Has var (get_or s var 0)) (sym leads) (kept var below))
  leads_have (o ∷ steps) from to fits kept leads =
      leads_have steps leads.0 to (leads.1.successor.same_variables ∙ fits) (step_has from leads.0 o fits kept leads.1) leads.2

  pub reachable_has : (state : List ℕ) → IsReachable task state → (length state ≡ length task.variables) × AllHave state
  reachable_has state reached = leads_have reached.0 task.state state valid.one_value closed.initial reached.1

  -- so in each reachable state the values are among the closed ones, and so is what an applicable operator sets
  pub has_always : (state : List ℕ) → IsReachable task state → (var : ℕ) → var < length task.variables → Has var (get_or (values task state) var 0)
  has_always state reached = let r = reachable_has state reached in values_have state r.0 r.1

  pub sets_always : (state : List ℕ) → IsReachable task state → (o : Operator) → Contains task.operators o → IsApplicable task state o → (e : Effect) → Contains o.effects e → Fires task state e → Has e.var e.after
  sets_always state reached o of-task applicable e in' fires = let r = reachable_has state reached in fired_has state o e r.0 r.1 of-task applicable in' fires

  -- and what a rule gives
  pub rule_has : (r : Rule) → Contains task.rules r → Has r.var r.after
  rule_has r in' =
      let law = rule_law task valid r in' in
      let layer = some_is (layer_of task r.var) law.derived in
      closed.by_rule r.var (get_or task.state r.var 0) r.after (closed.initial r.var (is_variable task r.var r.after law.value))
      (record { rule = r; of_task = in'; on = refl; to = refl; leaves = λ p in-p at. absurd (not_on_itself r p layer.0 in' in-p layer.1 at) })
    where
      some_is : (o : Option ℕ) → IsSome o → (x : ℕ) × (o ≡ Some x)
      some_is None is = absurd (false≢true is)
      some_is (Some x) is = (x, refl)
