-- Reached tasks that differ only in the order of actions and axioms have one encoding, but for the order of its parts.
use Rattle.std.proofs.Common.{◌≡◌, ℕ, List, ◌++◌, map, filter, length, inl, inr, sym, ap, ◌∙◌, subst, nat_le}
use Rattle.std.specs.List.{Contains, flat_map}
use Rattle.std.proofs.lemmas.List.Elements.{Contains-append_left, Contains-append_right, Contains-append_cases}
use Rattle.lists.proofs.Members.{member_flat_map, flat_map_member}
use Rattle.sas_task.specs.declared.parts.Operator.{Operator}
use Rattle.sas_task.specs.declared.parts.Rule.{Rule}
use Rattle.sas_task.specs.Task.{Task}
use Rattle.sas_task.specs.Alike.{IsAlike, HasAlike, AreAlike, RulesAgree}
use Rattle.ground_task.specs.declared.types.GoalRow.{GoalRow}
use Rattle.ground_task.specs.Literals.{initial}
use Rattle.lists.specs.SameMembers.{SameMembers}
use Rattle.lists.proofs.SameMembers.{mapped, filtered, permuted}
use Rattle.reached_task.specs.declared.types.Fact.{Fact}
use Rattle.reached_task.specs.declared.types.Reached.{Reached}
use Rattle.reached_task.specs.declared.types.ReachedAction.{ReachedAction}
use Rattle.reached_task.specs.ReachedTask.{reached_task}
use Rattle.reached_task.specs.Alike.{AreAlike as AreAlikeReached}
use Rattle.fdr_effects.specs.Places.{Cover, values_in}
use Rattle.fdr_encoder.specs.Encoding.{variable_over, rules_at, goal_part_of, IsSameOperator, IsEncoding}
use Rattle.fdr_effects.specs.Groups.{group_of, groups_of}
use Rattle.fdr_encoder.proofs.Parts.{operator_with, rule_from, rule_after, operator_from, operator_for}

-- ---- lists with the same members

pieces_part : {X Y : Type 0} (f : X → List Y) (xs ys : List X) → ((x : X) → Contains xs x → Contains ys x) → (y : Y) → Contains (flat_map f xs) y → Contains (flat_map f ys) y
pieces_part f xs ys to y in' = let from = flat_map_member f xs y in' in member_flat_map f ys from.0 y (to from.0 from.1) from.2

append_part : {X : Type 0} (xs ys zs : List X) → ((x : X) → Contains xs x → Contains ys x) → (x : X) → Contains (xs ++ zs) x → Contains (ys ++ zs) x
append_part xs ys zs to x in' =
    elim (Contains-append_cases xs zs x in') [
      | inl here ↦ Contains-append_left ys zs x (to x here)
      | inr later ↦ Contains-append_right ys zs x later
    ]

-- ---- operators

operator_alike : (raw o p : Operator) → IsSameOperator raw o → IsSameOperator raw p → IsAlike o p
operator_alike raw o p one other =
    record {
      name = one.name ∙ sym other.name;
      conditions = one.conditions ∙ sym other.conditions;
      effects = permuted raw.effects raw.effects o.effects p.effects one.effects other.effects (λ e. ((λ in'. in'), (λ in'. in')));
      cost = one.cost ∙ sym other.cost;
    }

operators_part : (cover : Cover) (mutexes others : List (List ℕ)) (layers : List ℕ) (a b : Reached) (one other : Task) → ((action : ReachedAction) → Contains a.actions action → Contains b.actions action) → IsEncoding cover mutexes layers a one → IsEncoding cover others layers b other →
    (o : Operator) → Contains one.operators o → HasAlike other.operators o
operators_part cover mutexes others layers a b one other to p q o in' =
    let from = operator_from cover mutexes layers a one p o in' in
    let there = operator_for cover others layers b other q from.action (to from.action from.of_task) from.member from.in_split in
    record { operator = there.0; listed = there.1; alike = operator_alike (operator_with cover from.action from.member) o there.0 from.same there.2 }

-- ---- what stands in order

-- a reached task with these facts, this initial state and this goal
abbrev with_parts : Reached → List Fact → List ℕ → GoalRow ℕ → Reached
with_parts b facts init goal = record { facts = facts; init = init; actions = b.actions; axioms = b.axioms; goal = goal; metric = b.metric }

-- what is made of facts, initial state and goal alone is the same
from_parts : {X : Type 0} (f : Reached → X) (a b : Reached) → AreAlikeReached a b → f (with_parts b a.facts a.init a.goal) ≡ f b
from_parts f a b is = ap (λ facts. f (with_parts b facts a.init a.goal)) is.facts ∙ ap (λ init. f (with_parts b b.facts init a.goal)) is.init ∙ ap (λ goal. f (with_parts b b.facts b.init goal)) is.goal

module _ (cover : Cover) (layers : List ℕ) (a b : Reached) (is : AreAlikeReached a b) where
  all-rules : SameMembers (flat_map (rules_at cover) a.axioms ++ (goal_part_of cover layers a).rules) (flat_map (rules_at cover) b.axioms ++ (goal_part_of cover layers b).rules)
  all-rules =
      subst (λ rules. SameMembers (flat_map (rules_at cover) a.axioms ++ (goal_part_of cover layers a).rules) (flat_map (rules_at cover) b.axioms ++ rules)) (from_parts (λ r. (goal_part_of cover layers r).rules) a b is) (λ r. (
        append_part (flat_map (rules_at cover) a.axioms) (flat_map (rules_at cover) b.axioms) (goal_part_of cover layers a).rules (pieces_part (rules_at cover) a.axioms b.axioms (λ row. (is.axioms row).0)) r,
        append_part (flat_map (rules_at cover) b.axioms) (flat_map (rules_at cover) a.axioms) (goal_part_of cover layers a).rules (pieces_part (rules_at cover) b.axioms a.axioms (λ row. (is.axioms row).1)) r,
      ))

-- ---- the encodings

pub one_encoding : (cover : Cover) (mutexes others : List (List ℕ)) (layers : List ℕ) (a b : Reached) (one other : Task) → AreAlikeReached a b → SameMembers mutexes others →
    IsEncoding cover mutexes layers a one → IsEncoding cover others layers b other → AreAlike one other
one_encoding cover mutexes others layers a b one other is same p q =
    record {
      metric = p.metric ∙ is.metric ∙ sym q.metric;
      variables = p.variables ∙ from_parts (λ r. map (variable_over r layers) cover ++ (goal_part_of cover layers r).variables) a b is ∙ sym q.variables;
      groups =
          permuted (groups_of cover mutexes) (groups_of cover others) one.groups other.groups p.groups q.groups
          (mapped (group_of cover) (filter (λ group. nat_le 2 (length group)) mutexes) (filter (λ group. nat_le 2 (length group)) others) (filtered (λ group. nat_le 2 (length group)) mutexes others same));
      state = p.state ∙ from_parts (λ r. values_in cover (initial (reached_task r)) ++ (goal_part_of cover layers r).values) a b is ∙ sym q.state;
      goal = p.goal ∙ from_parts (λ r. (goal_part_of cover layers r).goal) a b is ∙ sym q.goal;
      operators = operators_part cover mutexes others layers a b one other (λ action. (is.actions action).0) p q;
      back = operators_part cover others mutexes layers b a other one (λ action. (is.actions action).1) q p;
      rules =
          permuted (flat_map (rules_at cover) a.axioms ++ (goal_part_of cover layers a).rules) (flat_map (rules_at cover) b.axioms ++ (goal_part_of cover layers b).rules) one.rules other.rules p.rules q.rules
          (all-rules cover layers a b is);
    }

-- each rule takes its variable from 1 to 0
pub agreeing_rules : (cover : Cover) (mutexes : List (List ℕ)) (layers : List ℕ) (reached : Reached) (task : Task) → IsEncoding cover mutexes layers reached task → RulesAgree task
agreeing_rules cover mutexes layers reached task encodes a b in-a in-b same = (before a in-a ∙ sym (before b in-b), after a in-a ∙ sym (after b in-b))
  where
    before : (r : Rule) → Contains task.rules r → r.before ≡ 1
    before r in' =
        elim (rule_from cover mutexes layers reached task encodes r in') [
          | inl of-axiom ↦ ap (λ (q : Rule). q.before) (sym of-axiom.is)
          | inr of-goal ↦ ap (λ (q : Rule). q.before) (sym of-goal.is)
        ]

    after : (r : Rule) → Contains task.rules r → r.after ≡ 0
    after r in' = rule_after cover mutexes layers reached task encodes r in'
