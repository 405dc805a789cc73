-- A restriction may stand for its task.
use Rattle.std.proofs.Common.{◌≡◌, ◌≢◌, ℕ, ◌<◌, true, false, List, length, get_or, ◌⊎◌, sym, ◌∙◌, subst, inl, inr}
use Rattle.std.specs.List.{Contains}
use Rattle.std.proofs.lemmas.Bool.{cases_Bool, false≢true}
use Rattle.std.proofs.lemmas.List.{ext_get_or}
use Rattle.std.proofs.lemmas.List.Elements.{All-contains}
use Rattle.runs.specs.Systems.{HasStep, IsFollowed}
use Rattle.runs.proofs.Systems.{run_follows}
use Rattle.sas_task.specs.declared.parts.Effect.{Effect}
use Rattle.sas_task.specs.declared.parts.Operator.{Operator}
use Rattle.sas_task.specs.Task.{Task}
use Rattle.sas_task.specs.Valid.{IsValid, layer_of}
use Rattle.sas_task.specs.Solution.{Fires, Step, ChangingStep, cost_in, system, changing_system}
use Rattle.sas_task.specs.Keeps.{Keeps, KeepsChanging}
use Rattle.lists.proofs.Members.{all_from_members, member_any}
use Rattle.sas_task.proofs.Successors.{FiringOn, firing_or_none}
use Rattle.sas_task.proofs.Completion.{values_complete}
use Rattle.sas_task.proofs.KeepsLaws.{keeps_by_steps}
use Rattle.sas_task.proofs.ValidParts.{effect_law, none_of}
use Rattle.sas_restriction.specs.Choice.{Choice, IsChoice, effect_stays, is_busy}
use Rattle.sas_restriction.specs.Restriction.{Restricts}
use Rattle.sas_restriction.specs.MayStand.{IsTold, MayStand, TellsAll}
use Rattle.sas_restriction.proofs.Shown.{val_one}
use Rattle.sas_restriction.proofs.Steps.{Shows, fits, effect_below, set_left, firing_stays, forth_step, goal_forth, starts, followed_back, followed_busy, sound}

module _ (C : Choice) (T T' : Task) (valid : IsValid T) (choice : IsChoice C T) (r : Restricts C T T') (may : MayStand C T) where
  abbrev Show : List ℕ → List ℕ → Type 0
  Show = Shows C T T' valid choice r may

  pub keeps : Keeps T T'
  keeps = keeps_by_steps T T' (is_busy C) Show (followed_busy C T T' valid choice r may) (followed_back C T T' valid choice r may) (sound C T T' valid choice r may)

  -- where all variables are told, an operator none of whose effects stays leads to the same state
  idle_stays : TellsAll C T → (s s' : List ℕ) → Show s s' → (o : Operator) (t : List ℕ) → Step T s o t → is_busy C o ≡ false → t ≡ s
  idle_stays told s s' sh o t step idle =
      ext_get_or 0 t s step.successor.same_variables (λ v below. same v (subst (λ n. v < n) step.successor.same_variables below) (firing_or_none T s o.effects v))
    where
      same : (v : ℕ) → v < length s → FiringOn T s o.effects v ⊎ ((e : Effect) → Contains o.effects e → Fires T s e → e.var ≢ v) → get_or t v 0 ≡ get_or s v 0
      same v below (inr none) = step.successor.keeps v below (all_from_members (λ e. Fires T s e → e.var ≢ v) o.effects none)
      same v below (inl firing) = subst (λ w. get_or t w 0 ≡ get_or s w 0) firing.on (is ∙ by_telling (told e.var e-below))
        where
          e : Effect
          e = firing.effect

          e-below : firing.effect.var < length T.variables
          e-below = effect_below C T T' valid choice r may o step.of_task firing.effect firing.listed

          is : get_or t firing.effect.var 0 ≡ firing.effect.after
          is = All-contains (λ q. Fires T s q → get_or t q.var 0 ≡ q.after) o.effects firing.effect step.successor.sets firing.listed firing.fires

          after : Contains (C.values firing.effect.var) firing.effect.after
          after = set_left C T T' valid choice r may s t o sh.reachable step firing.effect firing.listed firing.fires

          before : Contains (C.values firing.effect.var) (get_or s firing.effect.var 0)
          before =
              let fit = fits C T T' valid choice r may s sh.reachable in
              let basic = (values_complete T valid s fit).basic firing.effect.var (subst (λ n. firing.effect.var < n) (sym fit) e-below) (none_of (layer_of T firing.effect.var) (effect_law T valid o step.of_task firing.effect firing.listed).basic) in
              subst (Contains (C.values firing.effect.var)) basic (may.has s sh.reachable firing.effect.var e-below)

          by_telling : IsTold C firing.effect.var → firing.effect.after ≡ get_or s firing.effect.var 0
          by_telling (inr short) = val_one C T choice firing.effect.var firing.effect.after (get_or s firing.effect.var 0) short after before
          by_telling (inl shown) =
              absurd (false≢true (sym idle ∙ member_any (effect_stays C) o.effects firing.effect firing.listed (firing_stays C T T' valid choice r may s s' sh o step.of_task firing.effect firing.listed firing.fires after shown)))

  pub keeps_changing : TellsAll C T → KeepsChanging T T'
  keeps_changing told = run_follows (changing_system T) (system T') Show followed
    where
      followed : IsFollowed (changing_system T) (system T') Show
      followed =
          record {
            starts = starts C T T' valid choice r may;
            steps = λ s s' sh o t step. by_test s s' sh o t step (cases_Bool (is_busy C o));
            goals = goal_forth C T T' valid choice r may;
          }
        where
          by_test : (s s' : List ℕ) → Show s s' → (o : Operator) (t : List ℕ) → ChangingStep T s o t → (is_busy C o ≡ true) ⊎ (is_busy C o ≡ false) → HasStep (system T') s' o.name (cost_in T o) (Show t)
          by_test s s' sh o t step (inl busy) = forth_step C T T' valid choice r may s s' sh o t step.0 (may.each s sh.reachable o t step.0 busy)
          by_test s s' sh o t step (inr idle) = absurd (step.1 (idle_stays told s s' sh o t step.0 idle))
