-- Where all variables are told, the condition of the law is about values, the goal's holder and steps alone.
use Rattle.std.proofs.Common.{◌≡◌, ℕ, ◌<◌, List, length, get_or, Some, inl}
use Rattle.std.specs.Prelude.{◌↔◌, IsTrue}
use Rattle.std.specs.List.{Contains, All}
use Rattle.std.proofs.lemmas.List.Elements.{All-contains}
use Rattle.sas_task.specs.declared.parts.Pair.{Pair}
use Rattle.sas_task.specs.declared.parts.Effect.{Effect}
use Rattle.sas_task.specs.declared.parts.Operator.{Operator}
use Rattle.sas_task.specs.Task.{Task}
use Rattle.sas_task.specs.Valid.{IsValid, IsFact}
use Rattle.sas_task.specs.Values.{values}
use Rattle.sas_task.specs.Solution.{IsApplicable, Fires, Step, IsReachable, MeetsGoal}
use Rattle.sas_task.proofs.States.{is_variable}
use Rattle.sas_task.proofs.ValidParts.{operator_law, effect_law, rule_law}
use Rattle.sas_restriction.specs.Choice.{Choice, is_busy, operator_stays}
use Rattle.sas_restriction.specs.MayStand.{AreTold, MayStand, TellsAll}

module _ (C : Choice) (T : Task) (valid : IsValid T) (tells : TellsAll C T) where
  conditions_told : (ps : List Pair) → All (IsFact T) ps → AreTold C ps
  conditions_told ps facts p in' = tells p.var (is_variable T p.var p.val (All-contains (IsFact T) ps p facts in'))

  pub may_where_told :
      ((state : List ℕ) → IsReachable T state → (var : ℕ) → var < length T.variables → Contains (C.values var) (get_or (values T state) var 0)) →
      ((state : List ℕ) → IsReachable T state → (o : Operator) → Contains T.operators o → IsTrue (operator_stays C o) → IsApplicable T state o → (e : Effect) → Contains o.effects e → Fires T state e → Contains (C.values e.var) e.after) →
      ((start : ℕ) → C.holder ≡ Some start → (state : List ℕ) → IsReachable T state → MeetsGoal T state ↔ (start ≡ 0)) →
      ((state : List ℕ) → IsReachable T state → (o : Operator) (next : List ℕ) → Step T state o next → IsTrue (is_busy C o) → IsTrue (C.operators o)) →
      MayStand C T
  may_where_told has sets held each =
      record {
        has = has;
        sets = sets;
        operators = λ o in-o stays. conditions_told o.conditions (operator_law T valid o in-o).conditions.facts;
        effects = λ o in-o stays e in-e e-stays. conditions_told e.conditions (effect_law T valid o in-o e in-e).conditions.facts;
        rules = λ r in-r stays. conditions_told r.conditions (rule_law T valid r in-r).conditions.facts;
        goal = λ none. conditions_told T.goal valid.goal.facts;
        held = held;
        agree = λ o in-o stays a b in-a in-b same. inl (tells a.var (is_variable T a.var a.after (effect_law T valid o in-o a in-a).value));
        each = each;
      }
