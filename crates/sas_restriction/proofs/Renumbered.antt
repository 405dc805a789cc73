-- Where all values and all of some variables are left, what is left of a task is what stands there, with new numbers for the variables.
use Rattle.std.proofs.Common.{◌≡◌, ◌≢◌, ℕ, ◌<◌, Bool, true, ◌&&◌, List, [], map, filter, length, get_or, None, refl, sym, ap, ◌∙◌}
use Rattle.std.specs.List.{Contains, All, AllPairs, range_with_len}
use Rattle.std.proofs.lemmas.List.FromFn.{fill_by_all}
use Rattle.std.proofs.lemmas.List.Elements.{All-contains}
use Rattle.sas_task.specs.declared.parts.Pair.{Pair}
use Rattle.sas_task.specs.declared.parts.Group.{Group}
use Rattle.sas_task.specs.declared.parts.Effect.{Effect}
use Rattle.sas_task.specs.declared.parts.Operator.{Operator}
use Rattle.sas_task.specs.declared.parts.Rule.{Rule}
use Rattle.sas_task.specs.Task.{Task}
use Rattle.sas_task.specs.Valid.{IsValid, IsFact, IsValidGroup, IsValidEffect, IsValidRule}
use Rattle.sas_task.specs.Orders.{pair_cmp}
use Rattle.sas_task.proofs.States.{is_variable}
use Rattle.sas_task.proofs.ValidParts.{rule_law}
use Rattle.lists.proofs.Items.{contains_among, same_map}
use Rattle.lists.proofs.Members.{filter_every, filter_member, same_filter}
use Rattle.sas_task.specs.InOrder.{sorted}
use Rattle.sas_restriction.specs.Choice.{Choice, IsChoice, is_shown, is_left, all_left, new_val, new_pair, new_pairs, variable_at, new_variable, fact_stays, new_group, effect_stays, new_effect, rule_stays, new_rule}
use Rattle.sas_restriction.specs.Everything.{all_values, everything}
use Rattle.sas_restriction.specs.Reordered.{place_in, renumbered_pair, renumbered_pairs, renumbered_group, renumbered_effect, renumbered_rule}
use Rattle.sas_restriction.proofs.AllValues.{value_member, member_value, value_left, facts_left, value_stays, all_closed}
use Rattle.sas_restriction.proofs.Closed.{rule_has}
use Rattle.lists.proofs.Ordered.{range_increasing}

-- maps that agree at each item
pub agree : {X Y : Type 0} (f g : X → Y) (xs : List X) → ((x : X) → Contains xs x → f x ≡ g x) → map f xs ≡ map g xs
agree f g xs each = same_map f g xs (λ x among. each x (contains_among xs x among))

-- and at each that passes
pub left_agree : {X Y : Type 0} (p q : X → Bool) (f g : X → Y) (xs : List X) → ((x : X) → Contains xs x → p x ≡ q x) → ((x : X) → Contains xs x → q x ≡ true → f x ≡ g x) → map f (filter p xs) ≡ map g (filter q xs)
left_agree p q f g xs same each = ap (map f) (same_filter p q xs same) ∙ agree f g (filter q xs) (λ x in'. let is = filter_member q xs x in' in each x is.0 is.1)

-- a list read place by place
by_place : (xs : List (List ℕ)) → map (λ i. get_or xs i []) (range_with_len 0 (length xs)) ≡ xs
by_place xs = sym (fill_by_all (λ i. get_or xs i []) xs (length xs) [] refl (λ i low. refl))

-- a test that is one of two, the other of which passes
passing : (a b : Bool) → a ≡ true → (a && b) ≡ b
passing a b is = ap (λ c. c && b) is

module _ (T : Task) (valid : IsValid T) (vars : List ℕ) where
  abbrev C : Choice
  C = everything T vars

  -- all these variables are shown
  abbrev pub AreShown : List Pair → Type 0
  AreShown ps = (p : Pair) → Contains ps p → is_shown (everything T vars) p.var ≡ true

  pair_is : (ps : List Pair) → All (IsFact T) ps → (p : Pair) → Contains ps p → new_pair C p ≡ renumbered_pair vars p
  pair_is ps facts p in' i = record { var = place_in vars p.var; val = value_stays T p.var p.val (All-contains (IsFact T) ps p facts in') i }

  pub pairs_are : (ps : List Pair) → All (IsFact T) ps → AreShown ps → new_pairs (everything T vars) ps ≡ renumbered_pairs vars ps
  pairs_are ps facts shown =
      ap (sorted pair_cmp) (ap (map (new_pair C)) (filter_every (λ (p : Pair). is_shown C p.var) ps shown) ∙ agree (new_pair C) (renumbered_pair vars) ps (pair_is ps facts))

  -- of a group the facts on these variables stay
  pub group_is : (g : Group) → IsValidGroup T g → new_group (everything T vars) g ≡ renumbered_group vars (record { facts = filter (λ (p : Pair). is_shown (everything T vars) p.var) g.facts })
  group_is g law =
      let facts = left_agree (fact_stays C) (λ (p : Pair). is_shown C p.var) (new_pair C) (renumbered_pair vars) g.facts
      (λ p in'. passing (is_left C p.var p.val) (is_shown C p.var) (value_left T p.var p.val (All-contains (IsFact T) g.facts p law.facts in')))
      (λ p in' is. pair_is g.facts law.facts p in') in
      λ i. record { facts = sorted pair_cmp (facts i) }

  -- an effect stays where its variable is shown
  pub effect_left : (e : Effect) → IsValidEffect T e → effect_stays (everything T vars) e ≡ is_shown (everything T vars) e.var
  effect_left e law =
      passing (all_left C e.conditions) (is_left C e.var e.after && is_shown C e.var) (facts_left T e.conditions law.conditions.facts) ∙ passing (is_left C e.var e.after) (is_shown C e.var) (value_left T e.var e.after law.value)

  pub effect_is : (e : Effect) → IsValidEffect T e → AreShown e.conditions → new_effect (everything T vars) e ≡ renumbered_effect vars e
  effect_is e law shown i = record { conditions = pairs_are e.conditions law.conditions.facts shown i; var = place_in vars e.var; after = value_stays T e.var e.after law.value i }

  -- so does a rule
  pub rule_left : (r : Rule) → Contains T.rules r → rule_stays (everything T vars) r ≡ is_shown (everything T vars) r.var
  rule_left r in' = passing (all_left C r.conditions) (is_shown C r.var) (facts_left T r.conditions (rule_law T valid r in').conditions.facts)

  pub rule_is : (r : Rule) → Contains T.rules r → AreShown r.conditions → new_rule (everything T vars) r ≡ renumbered_rule vars r
  rule_is r in' shown i =
      record { conditions = pairs_are r.conditions law.conditions.facts shown i; var = place_in vars r.var; before = before i; after = value_stays T r.var r.after law.value i }
    where
      law : IsValidRule T r
      law = rule_law T valid r in'

      low : r.var < length T.variables
      low = is_variable T r.var r.after law.value

      before : new_val C r.var r.before ≡ r.before
      before = ap (new_val C r.var) law.default ∙ value_stays T r.var (get_or T.state r.var 0) (valid.state r.var low) ∙ sym law.default

  pub variable_is : (v : ℕ) → new_variable (everything T vars) T v ≡ variable_at T v
  variable_is v i = record { layer = (variable_at T v).layer; facts = by_place (variable_at T v).facts i }

  pub start_is : (v : ℕ) → v < length T.variables → new_val (everything T vars) v (get_or T.state v 0) ≡ get_or T.state v 0
  start_is v low = value_stays T v (get_or T.state v 0) (valid.state v low)

  -- these variables, each at most once, are a choice, whichever operators are left
  pub choice_of : (leaves : Operator → Bool) → All (λ v. v < length T.variables) vars → AllPairs (λ v w. v ≢ w) vars → IsChoice (record { vars = vars; values = all_values T; operators = leaves; holder = None }) T
  choice_of leaves inside once =
      record {
        inside = inside;
        once = once;
        in_order = λ v low. range_increasing _;
        are_values = λ v x low in'. member_value T v x in';
        initial = λ v low. value_member T v (get_or T.state v 0) (valid.state v low);
        by_rules = λ r in' stays. rule_has T valid (λ v x. Contains (all_values T v) x) (all_closed T valid) r in';
        two_valued = tt;
        goal_left = λ none. facts_left T T.goal valid.goal.facts;
      }
