-- Tasks that differ only in the order of their parts have one projection.
use Rattle.std.proofs.Common.{◌≡◌, ℕ, ◌<◌, true, List, filter, length, get_or, None, refl, sym, ap, ◌∙◌, subst}
use Rattle.std.specs.List.{range_with_len}
use Rattle.lists.proofs.Items.{among_contains, contains_among, same_items_any}
use Rattle.sas_task.specs.declared.parts.Variable.{Variable}
use Rattle.sas_task.specs.Task.{Task, of_parts}
use Rattle.sas_task.specs.Alike.{AreAlike, RulesAgree}
use Rattle.sas_task.proofs.Alike.{task_back}
use Rattle.sas_restriction.specs.Choice.{Choice, effect_stays}
use Rattle.sas_restriction.specs.Closed.{Leaves, EffectTransition, RuleTransition}
use Rattle.sas_restriction.specs.Restriction.{restriction}
use Rattle.sas_restriction.proofs.Alike.{IsBlind, one_restriction}
use Rattle.task_simplifier.specs.Kept.{IsKept, Initial, ByEffect, ByRule, AreKept}
use Rattle.task_simplifier.specs.Projection.{stays, nothing_twice, projected, project_to, kept_in, IsProjection}
use Rattle.task_simplifier.proofs.OneProjection.{one_projection}

-- ---- kept values

effect_transition : (a b : Task) → AreAlike a b → (var val next : ℕ) → EffectTransition a var val next → EffectTransition b var val next
effect_transition a b is var val next move =
    let o = is.operators move.operator move.of_task in
    record {
      operator = o.operator;
      effect = move.effect;
      of_task = o.listed;
      of_operator = (o.alike.effects move.effect).0 move.of_operator;
      on = move.on;
      to = move.to;
      leaves = subst (λ ps. Leaves ps var val) o.alike.conditions move.leaves;
      leaves_too = move.leaves_too;
    }

rule_transition : (a b : Task) → AreAlike a b → (var val next : ℕ) → RuleTransition a var val next → RuleTransition b var val next
rule_transition a b is var val next move = record { rule = move.rule; of_task = (is.rules move.rule).0 move.of_task; on = move.on; to = move.to; leaves = move.leaves }

kept_alike : (a b : Task) → AreAlike a b → (var val : ℕ) → IsKept a var val → IsKept b var val
kept_alike a b is var _ Initial = subst (λ s. IsKept b var (get_or s var 0)) (sym is.state) Initial
kept_alike a b is var _ (ByEffect val next from move) = ByEffect val next (kept_alike a b is var val from) (effect_transition a b is var val next move)
kept_alike a b is var _ (ByRule val next from move) = ByRule val next (kept_alike a b is var val from) (rule_transition a b is var val next move)

are_kept_alike : (a b : Task) → AreAlike a b → (kept : ℕ → List ℕ) → AreKept a kept → AreKept b kept
are_kept_alike a b is kept are =
    record {
      sorted = λ var below. are.sorted var (within var below);
      only = λ var val below in'. kept_alike a b is var val (are.only var val (within var below) in');
      each = λ var val below is-kept. are.each var val (within var below) (kept_alike b a (task_back a b is) var val is-kept);
    }
  where
    within : (var : ℕ) → var < length b.variables → var < length a.variables
    within var below = subst (λ (vs : List Variable). var < length vs) (sym is.variables) below

-- ---- the choice

-- what the projection leaves, whether or not an effect of the operator stays
abbrev with_idle : (ℕ → List ℕ) → Task → Choice
with_idle kept task = record { vars = filter (stays kept) (range_with_len 0 (length task.variables)); values = kept; operators = λ o. true; holder = None }

blind : (kept : ℕ → List ℕ) (task : Task) → IsBlind (projected kept task)
blind kept task a b is =
    same_items_any (effect_stays (with_idle kept task)) a.effects b.effects
    (λ e in'. among_contains b.effects e ((is.effects e).0 (contains_among a.effects e in')))
    (λ e in'. among_contains a.effects e ((is.effects e).1 (contains_among b.effects e in')))

same_choice : (kept : ℕ → List ℕ) (a b : Task) → AreAlike a b → projected kept a ≡ projected kept b
same_choice kept a b is i = projected kept (of_parts b.metric (is.variables i) b.groups b.state (is.goal i) b.operators b.rules)

-- ---- the projection

project_alike : (kept : ℕ → List ℕ) (a b : Task) → RulesAgree a → AreAlike a b → project_to kept a ≡ project_to kept b
project_alike kept a b agree is =
    one_restriction (projected kept a) (blind kept a) a b agree is ∙ ap (λ choice. restriction nothing_twice choice b) (same_choice kept a b is)

pub one_of_alike : (a b p q : Task) → RulesAgree a → AreAlike a b → IsProjection a p → IsProjection b q → p ≡ q
one_of_alike a b p q agree is one other =
    one.same
    ∙ project_alike (kept_in one.kept) a b agree is
    ∙ one_projection b (project_to (kept_in one.kept) b) q
    (record { kept = one.kept; count = one.count ∙ ap (λ (vs : List Variable). length vs) is.variables; are = are_kept_alike a b is (kept_in one.kept) one.are; same = refl })
    other
