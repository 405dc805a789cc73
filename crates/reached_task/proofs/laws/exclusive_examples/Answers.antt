use Rattle.std.proofs.Common.{◌≡◌, ℕ, zero, suc, true, List, [], ◌∷◌, inl, inr, refl, sym, ap, ◌∙◌, subst, arith}
use Rattle.std.specs.List.{Contains}
use Rattle.std.proofs.lemmas.Bool.{true≢false}
use Rattle.planning.specs.Plan.{IsReachable}
use Rattle.planning.specs.Task.{State, PlanningTask, Takes, successor}
use Rattle.lists.proofs.Members.{no_member, member_first, member_later, member_cases, member_single}
use Rattle.ground_task.specs.Literals.{ActionRow, meaning}
use Rattle.reached_task.specs.declared.types.ReachedAction.{ReachedAction}
use Rattle.reached_task.specs.Examples.{two_lamps, press_b}
use Rattle.reached_task.specs.Exclusive.{AtMostOne}
use Rattle.reached_task.specs.ReachedTask.{reached_task, action_row}
use Rattle.reached_task.proofs.laws.exclusive_examples.Goals as goal

-- the two lamps, of which these are on at the start, as a planning task
abbrev lamps : List ℕ → List ReachedAction → PlanningTask ℕ (ActionRow ℕ)
lamps init actions = meaning (reached_task (two_lamps init actions))

-- where nothing can be done the start is all that is reached
stays : (init : List ℕ) (state : State ℕ) → IsReachable (lamps init []) state → state ≡ (lamps init []).initial
stays init state ([], same) = same
stays init state (step ∷ steps, leads) = absurd (no_member step leads.1.of_task)

-- the first lamp alone is on
first_alone : (f : ℕ) → Contains (0 ∷ 1 ∷ []) f → (lamps (0 ∷ []) []).initial f ≡ true → 0 ≡ f
first_alone f in' on = elim (member_cases 0 f (1 ∷ []) in') [
  | inl same ↦ same
  | inr later ↦ absurd (true≢false (sym on ∙ ap (lamps (0 ∷ []) []).initial (sym (member_single 1 f later))))
]

-- both lamps are on
both : (state : State ℕ) → state 0 ≡ true → state 1 ≡ true → AtMostOne state (0 ∷ 1 ∷ []) → ⊥
both state one other exclusive =
    let same : 0 ≡ 1 = exclusive 0 1 (member_first 0 (1 ∷ [])) (member_later 0 1 (1 ∷ []) (member_first 1 [])) one other in
    omega (arith, same)

abbrev pressed : PlanningTask ℕ (ActionRow ℕ)
pressed = lamps (0 ∷ []) (press_b ∷ [])

abbrev after : State ℕ
after = successor pressed pressed.initial pressed.initial (action_row press_b)

presses : Takes pressed pressed.initial (action_row press_b) after
presses =
    record {
      of_task = member_first (action_row press_b) [];
      full = pressed.initial;
      is_full = record { basic = λ atom basic. refl; derived = λ atom derived. absurd (none_derived atom derived) };
      applicable = refl;
      costs = refl;
      follows = λ atom. refl;
    }
  where
    none_derived : (atom : ℕ) → pressed.is_derived atom ≡ true → ⊥
    none_derived zero derived = true≢false (sym derived)
    none_derived (suc zero) derived = true≢false (sym derived)
    none_derived (suc (suc atom)) derived = true≢false (sym derived)

pub returns-clause-exclusive : goal.returns-clause-exclusive
returns-clause-exclusive c state reached f g in-f in-g on-f on-g =
    let same = stays (0 ∷ []) state reached in
    let at-f : (lamps (0 ∷ []) []).initial f ≡ true = subst (λ (s : State ℕ). s f ≡ true) same on-f in
    let at-g : (lamps (0 ∷ []) []).initial g ≡ true = subst (λ (s : State ℕ). s g ≡ true) same on-g in
    sym (first_alone f in-f at-f) ∙ first_alone g in-g at-g

pub returns-clause-at_start : goal.returns-clause-at_start
returns-clause-at_start c exclusive = let start = (lamps (0 ∷ 1 ∷ []) []).initial in both start refl refl (exclusive start ([], refl))

pub returns-clause-after_a_step : goal.returns-clause-after_a_step
returns-clause-after_a_step c exclusive = both after refl refl (exclusive after (action_row press_b ∷ [], (after, presses, refl)))
