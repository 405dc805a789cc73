-- Facts that hold together in a reachable state of a plain task are a pair of each set that has all possible ones, and two values of one variable are never possible together.
use Rattle.std.proofs.Common.{◌≡◌, ◌≢◌, ℕ, ◌<◌, Bool, true, false, not, ◌&&◌, ◌||◌, eqb, List, [], ◌∷◌, length, get_or, Option, Some, None, ◌⊎◌, refl, sym, ap, ◌∙◌, subst, inl, inr, arith}
use Rattle.std.specs.Prelude.{IsNone, is_none}
use Rattle.std.specs.List.{Contains, All, list_all, list_any}
use Rattle.std.proofs.lemmas.Bool.{cases_Bool, cases_eq, false≢true, eq-eqb, ne_eqb, eqb-true, and_parts, and_from, or_left, or_right, not-true}
use Rattle.std.proofs.lemmas.List.Elements.{All-contains}
use Rattle.runs.specs.Runs.{Leads}
use Rattle.lists.proofs.Items.{contains_among, none_passes}
use Rattle.lists.proofs.Members.{all_pass, each_passes, all_from_members, any_member, member_any}
use Rattle.sas_task.specs.declared.parts.Pair.{Pair}
use Rattle.sas_task.specs.declared.parts.Variable.{Variable}
use Rattle.sas_task.specs.declared.parts.Effect.{Effect}
use Rattle.sas_task.specs.declared.parts.Operator.{Operator}
use Rattle.sas_task.specs.Task.{Task}
use Rattle.sas_task.specs.Pairs.{pair}
use Rattle.sas_task.specs.Effects.{changes, fact_of}
use Rattle.sas_task.specs.Valid.{IsValid, IsFact}
use Rattle.sas_task.specs.Values.{all_hold, values}
use Rattle.sas_task.specs.Solution.{Fires, Step, IsReachable}
use Rattle.sas_task.proofs.Completion.{none_derived}
use Rattle.sas_task.proofs.Successors.{FiringOn, firing_or_none}
use Rattle.sas_task.proofs.States.{is_variable, successor_agrees}
use Rattle.sas_task.proofs.ValidParts.{operator_law}
use Rattle.pass_possible.specs.Possible.{is_plain, is_mixed, Pairs, all_pairs, is_possible, HasPossible, ArePossible}
use Rattle.sas_task.proofs.RisingPairs.{pair_is}

empty_list : {X : Type 0} (xs : List X) → eqb (length xs) 0 ≡ true → xs ≡ []
empty_list [] e = refl
empty_list (x ∷ xs) e = let n : length (x ∷ xs) ≡ 0 = eqb-true (length (x ∷ xs)) 0 e in absurd (omega arith)

nobody_passes : {X : Type 0} (p : X → Bool) (xs : List X) → list_any p xs ≡ false → (x : X) → Contains xs x → p x ≡ true → ⊥
nobody_passes p xs none x in' is = false≢true (sym none ∙ member_any p xs x in' is)

-- ---- plain tasks

pub record Plain (task : Task) : Type 0 where
  pub basic : All (λ v. IsNone v.layer) task.variables
  pub no_rule : task.rules ≡ []
  pub unconditional : (o : Operator) (e : Effect) → Contains task.operators o → Contains o.effects e → e.conditions ≡ []

is_basic : (o : Option ℕ) → is_none o ≡ true → IsNone o
is_basic None e = refl
is_basic (Some x) e = absurd (false≢true e)

pub plain_parts : (task : Task) → is_plain task ≡ true → Plain task
plain_parts task is =
    let one = and_parts (list_all (λ (v : Variable). is_none v.layer) task.variables) (eqb (length task.rules) 0 && list_all (λ (o : Operator). list_all (λ (e : Effect). eqb (length e.conditions) 0) o.effects) task.operators) is in
    let two = and_parts (eqb (length task.rules) 0) (list_all (λ (o : Operator). list_all (λ (e : Effect). eqb (length e.conditions) 0) o.effects) task.operators) one.1 in
    record {
      basic = all_from_members (λ (v : Variable). IsNone v.layer) task.variables (λ v in'. is_basic v.layer (all_pass (λ (v : Variable). is_none v.layer) task.variables v one.0 in'));
      no_rule = empty_list task.rules two.0;
      unconditional = λ o e in-o in-e. empty_list e.conditions (all_pass (λ (e : Effect). eqb (length e.conditions) 0) o.effects e (all_pass (λ (o : Operator). list_all (λ (e : Effect). eqb (length e.conditions) 0) o.effects) task.operators o two.1 in-o) in-e);
    }

-- ---- mixed operators

mixed_parts : (o : Operator) → is_mixed o ≡ true → (a : Effect) × (b : Effect) × Contains o.effects a × Contains o.effects b × (a.var ≡ b.var) × (a.after ≢ b.after)
mixed_parts o is =
    let a = any_member (λ (a : Effect). list_any (λ (b : Effect). eqb a.var b.var && not (eqb a.after b.after)) o.effects) o.effects is in
    let b = any_member (λ (b : Effect). eqb a.0.var b.var && not (eqb a.0.after b.after)) o.effects a.2 in
    let parts = and_parts (eqb a.0.var b.0.var) (not (eqb a.0.after b.0.after)) b.2 in
    (a.0, b.0, a.1, b.1, eqb-true a.0.var b.0.var parts.0, λ same. false≢true (sym (ap not (eq-eqb a.0.after b.0.after same)) ∙ parts.1))

unmixed : (o : Operator) → is_mixed o ≡ false → (a b : Effect) → Contains o.effects a → Contains o.effects b → a.var ≡ b.var → a.after ≡ b.after
unmixed o none a b in-a in-b same =
    elim (cases_eq a.after b.after) [
      | inl one ↦ one
      | inr other ↦
          absurd (nobody_passes (λ (a : Effect). list_any (λ (b : Effect). eqb a.var b.var && not (eqb a.after b.after)) o.effects) o.effects none a in-a
          (member_any (λ (b : Effect). eqb a.var b.var && not (eqb a.after b.after)) o.effects b in-b
          (ap (λ t. t && not (eqb a.after b.after)) (eq-eqb a.var b.var same) ∙ ap not (ne_eqb a.after b.after other))))
    ]

pub possible_parts : (pairs : Pairs) (o : Operator) → is_possible pairs o ≡ true → (is_mixed o ≡ false) × (all_pairs pairs o.conditions ≡ true)
possible_parts pairs o is = let parts = and_parts (not (is_mixed o)) (all_pairs pairs o.conditions) is in (not-true (is_mixed o) parts.0, parts.1)

-- ---- two values of one variable

-- whether the facts aren't two values of one variable
abbrev apart_or_one : Pairs
apart_or_one p q = not (eqb p.var q.var) || eqb p.val q.val

one_or_apart : (p q : Pair) → (p.var ≡ q.var → p.val ≡ q.val) → apart_or_one p q ≡ true
one_or_apart p q so =
    elim (cases_eq p.var q.var) [
      | inl same ↦ or_right (not (eqb p.var q.var)) (eqb p.val q.val) (eq-eqb p.val q.val (so same))
      | inr other ↦ or_left (not (eqb p.var q.var)) (eqb p.val q.val) (ap not (ne_eqb p.var q.var other))
    ]

one_of : (p q : Pair) → apart_or_one p q ≡ true → p.var ≡ q.var → p.val ≡ q.val
one_of p q is same = eqb-true p.val q.val (sym (ap (λ b. not b || eqb p.val q.val) (eq-eqb p.var q.var same)) ∙ is)

one_values : (T : Task) → HasPossible T apart_or_one
one_values T =
    record {
      turned = λ p q is. one_or_apart q p (λ same. sym (one_of p q is (sym same)));
      state = λ p q init-p init-q. one_or_apart p q (λ same. sym init-p.1 ∙ ap (λ v. get_or T.state v 0) same ∙ init-q.1);
      effects = λ o a b of-task possible in-a in-b. one_or_apart (fact_of a) (fact_of b) (unmixed o (possible_parts apart_or_one o possible).0 a b in-a in-b);
      effect = λ o e g of-task possible in-e free itself beside.
          one_or_apart (fact_of e) g (λ same. absurd (nobody_passes (λ (e : Effect). eqb e.var g.var) o.effects free e in-e (eq-eqb e.var g.var same)));
    }

pub one_value : (T : Task) (pairs : Pairs) → ArePossible T pairs → (p q : Pair) → pairs p q ≡ true → p.var ≡ q.var → p.val ≡ q.val
one_value T pairs are p q is same = one_of p q (are.least apart_or_one (one_values T) p q is) same

-- ---- reachable states

module _ (T : Task) (valid : IsValid T) (plain : Plain T) (has : Pairs) (closed : HasPossible T has) where
  abbrev fact : List ℕ → ℕ → Pair
  fact s v = pair v (get_or s v 0)

  -- all pairs of facts of the state are in the set
  pub record HasPairs (s : List ℕ) : Type 0 where
    pub count : length s ≡ length T.variables
    pub pairs : (v w : ℕ) → v < length T.variables → w < length T.variables → has (fact s v) (fact s w) ≡ true

  pub plain_values : (s : List ℕ) → values T s ≡ s
  plain_values s = none_derived T s plain.basic

  -- each effect fires
  fires : (s : List ℕ) (o : Operator) (e : Effect) → Contains T.operators o → Contains o.effects e → Fires T s e
  fires s o e in-o in-e = ap (all_hold (values T s)) (plain.unconditional o e in-o in-e)

  holds_at : (s : List ℕ) (ps : List Pair) (p : Pair) → all_hold (values T s) ps ≡ true → Contains ps p → get_or s p.var 0 ≡ p.val
  holds_at s ps p all in' =
      eqb-true (get_or s p.var 0) p.val (ap (λ xs. eqb (get_or xs p.var 0) p.val) (sym (plain_values s)) ∙ all_pass (λ (p : Pair). eqb (get_or (values T s) p.var 0) p.val) ps p all in')

  module _ (s : List ℕ) (held : HasPairs s) where
    -- facts that hold are in the set
    pub holding_pair : (p q : Pair) → p.var < length T.variables → q.var < length T.variables → get_or s p.var 0 ≡ p.val → get_or s q.var 0 ≡ q.val → has p q ≡ true
    holding_pair p q in-p in-q at-p at-q =
        subst (λ r. has r q ≡ true) (pair_is (fact s p.var) p refl at-p) (subst (λ r. has (fact s p.var) r ≡ true) (pair_is (fact s q.var) q refl at-q) (held.pairs p.var q.var in-p in-q))

    module _ (o : Operator) (t : List ℕ) (step : Step T s o t) where
      within : (p : Pair) → Contains o.conditions p → p.var < length T.variables
      within p in' = is_variable T p.var p.val (All-contains (IsFact T) o.conditions p (operator_law T valid o step.of_task).conditions.facts in')

      beside_conditions : (p : Pair) → p.var < length T.variables → get_or s p.var 0 ≡ p.val → list_all (λ q. has p q) o.conditions ≡ true
      beside_conditions p in-p at = each_passes (λ q. has p q) o.conditions (λ q in-q. holding_pair p q in-p (within q in-q) at (holds_at s o.conditions q step.applicable in-q))

      step_unmixed : is_mixed o ≡ false
      step_unmixed =
          elim (cases_Bool (is_mixed o)) [
            | inr fails ↦ fails
            | inl is ↦
                let m = mixed_parts o is in
                absurd (m.5 (successor_agrees T s o t step.successor m.0 m.1 m.2 m.3 (fires s o m.0 step.of_task m.2) (fires s o m.1 step.of_task m.3) m.4))
          ]

      -- an operator with a step is possible
      pub step_possible : is_possible has o ≡ true
      step_possible =
          and_from (not (is_mixed o)) (all_pairs has o.conditions) (ap not step_unmixed)
          (each_passes (λ p. list_all (λ q. has p q) o.conditions) o.conditions (λ p in-p. beside_conditions p (within p in-p) (holds_at s o.conditions p step.applicable in-p)))

      -- what a variable has afterwards
      abbrev Choice : ℕ → Type 0
      Choice v = FiringOn T s o.effects v ⊎ ((e : Effect) → Contains o.effects e → Fires T s e → e.var ≢ v)

      set_to : (v : ℕ) (f : FiringOn T s o.effects v) → fact_of f.effect ≡ fact t v
      set_to v f =
          pair_is (fact_of f.effect) (fact t v) f.on
          (sym (subst (λ w. get_or t w 0 ≡ f.effect.after) f.on (All-contains (λ e. Fires T s e → get_or t e.var 0 ≡ e.after) o.effects f.effect step.successor.sets f.listed f.fires)))

      kept_at : (v : ℕ) → v < length T.variables → ((e : Effect) → Contains o.effects e → Fires T s e → e.var ≢ v) → fact s v ≡ fact t v
      kept_at v below none =
          pair_is (fact s v) (fact t v) refl (sym (step.successor.keeps v (subst (λ n. v < n) (sym held.count) below) (all_from_members (λ e. Fires T s e → e.var ≢ v) o.effects none)))

      unchanged : (v : ℕ) → ((e : Effect) → Contains o.effects e → Fires T s e → e.var ≢ v) → changes o v ≡ false
      unchanged v none =
          none_passes (λ (e : Effect). eqb e.var v) o.effects (λ e among on. let in' = contains_among o.effects e among in none e in' (fires s o e step.of_task in') (eqb-true e.var v on))

      -- an effect beside a fact that stays
      beside : (v w : ℕ) → w < length T.variables → FiringOn T s o.effects v → ((e : Effect) → Contains o.effects e → Fires T s e → e.var ≢ w) → has (fact t v) (fact t w) ≡ true
      beside v w in-w f none =
          subst (λ p. has p (fact t w) ≡ true) (set_to v f)
          (subst (λ q. has (fact_of f.effect) q ≡ true) (kept_at w in-w none)
          (closed.effect o f.effect (fact s w) step.of_task step_possible f.listed (unchanged w none) (held.pairs w w in-w in-w) (beside_conditions (fact s w) in-w refl)))

      next_pair : (v w : ℕ) → v < length T.variables → w < length T.variables → Choice v → Choice w → has (fact t v) (fact t w) ≡ true
      next_pair v w in-v in-w (inl f) (inl g) =
          subst (λ p. has p (fact t w) ≡ true) (set_to v f) (subst (λ q. has (fact_of f.effect) q ≡ true) (set_to w g) (closed.effects o f.effect g.effect step.of_task step_possible f.listed g.listed))
      next_pair v w in-v in-w (inl f) (inr none) = beside v w in-w f none
      next_pair v w in-v in-w (inr none) (inl g) = closed.turned (fact t w) (fact t v) (beside w v in-v g none)
      next_pair v w in-v in-w (inr none) (inr none') =
          subst (λ p. has p (fact t w) ≡ true) (kept_at v in-v none) (subst (λ q. has (fact s v) q ≡ true) (kept_at w in-w none') (held.pairs v w in-v in-w))

      step_pairs : HasPairs t
      step_pairs =
          record {
            count = step.successor.same_variables ∙ held.count;
            pairs = λ v w in-v in-w. next_pair v w in-v in-w (firing_or_none T s o.effects v) (firing_or_none T s o.effects w);
          }

  start_pairs : HasPairs T.state
  start_pairs = record { count = valid.one_value; pairs = λ v w in-v in-w. closed.state (fact T.state v) (fact T.state w) (in-v, refl) (in-w, refl) }

  leads_pairs : (steps : List Operator) (from to : List ℕ) → HasPairs from → Leads (Step T) from steps to → HasPairs to
  leads_pairs [] from to held leads = subst HasPairs (sym leads) held
  leads_pairs (o ∷ steps) from to held leads = leads_pairs steps leads.0 to (step_pairs from held o leads.0 leads.1) leads.2

  pub reachable_pairs : (s : List ℕ) → IsReachable T s → HasPairs s
  reachable_pairs s reached = leads_pairs reached.0 T.state s start_pairs reached.1

-- facts that hold together in a reachable state of a plain task are a possible pair
pub pair_reached : (T : Task) (pairs : Pairs) (s : List ℕ) (p q : Pair) → IsValid T → is_plain T ≡ true → ArePossible T pairs → IsReachable T s → p.var < length T.variables → q.var < length T.variables → get_or s p.var 0 ≡ p.val → get_or s q.var 0 ≡ q.val → pairs p q ≡ true
pair_reached T pairs s p q valid is are reached =
    holding_pair T valid (plain_parts T is) pairs are.closed s (reachable_pairs T valid (plain_parts T is) pairs are.closed s reached) p q
