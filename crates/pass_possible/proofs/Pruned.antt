-- The task without what no pair of facts allows is valid and may stand for the task.
use Rattle.std.proofs.Common.{◌≡◌, ℕ, true, List, map, filter, refl, sym, ap, ◌∙◌, subst, inl, inr}
use Rattle.std.specs.Prelude.{◌↔◌}
use Rattle.std.proofs.Math.Path.{fun_ext}
use Rattle.std.proofs.lemmas.Bool.{cases_Bool}
use Rattle.runs.proofs.Systems.{run_follows}
use Rattle.lists.proofs.Members.{map_member, filter_member}
use Rattle.sas_task.specs.declared.parts.Operator.{Operator}
use Rattle.sas_task.specs.Task.{Task}
use Rattle.sas_task.specs.Valid.{IsValid}
use Rattle.sas_task.specs.Solution.{HasSolution, system}
use Rattle.sas_task.specs.Keeps.{Keeps}
use Rattle.sas_task.specs.Orders.{operator_cmp}
use Rattle.sas_task.proofs.KeepsLaws.{keeps_itself}
use Rattle.sas_task.proofs.InOrder.{ordered_member}
use Rattle.sas_restriction.specs.Choice.{Choice, operator_stays}
use Rattle.sas_restriction.specs.Restriction.{Restricts, new_operator}
use Rattle.sas_restriction.specs.KeepsCosts.{KeepsCosts}
use Rattle.sas_restriction.proofs.Valid.{restriction_valid}
use Rattle.sas_restriction.proofs.Arranged.{restricts}
use Rattle.sas_restriction.proofs.Steps.{Shows, forth_step, starts, goal_forth}
use Rattle.sas_restriction.proofs.Stands.{keeps}
use Rattle.pass_possible.specs.Possible.{is_plain, Pairs, HasPossible, ArePossible}
use Rattle.pass_possible.specs.Pruned.{possible_alone, groups_once, pruned, IsPruned}
use Rattle.pass_possible.proofs.Alone.{choice, stepping, may}
use Rattle.std.specs.Cmp.{both_ways}

module _ (T : Task) (valid : IsValid T) (plain : is_plain T ≡ true) (pairs : Pairs) (closed : HasPossible T pairs) where
  abbrev C : Choice
  C = possible_alone pairs T

  is_restriction : Restricts C T (pruned pairs T)
  is_restriction = restricts groups_once C T valid (choice T valid plain pairs closed)

  alone_valid : IsValid (pruned pairs T)
  alone_valid = restriction_valid C T (pruned pairs T) valid (choice T valid plain pairs closed) is_restriction

  alone_keeps : Keeps T (pruned pairs T)
  alone_keeps = keeps C T (pruned pairs T) valid (choice T valid plain pairs closed) is_restriction (may T valid plain pairs closed)

  -- each step is one of a possible operator, which is left
  alone_solves : (names : List (List ℕ)) (cost : ℕ) → HasSolution T names cost → HasSolution (pruned pairs T) names cost
  alone_solves =
      run_follows (system T) (system (pruned pairs T)) Show
      (record {
        starts = starts C T (pruned pairs T) valid (choice T valid plain pairs closed) is_restriction (may T valid plain pairs closed);
        steps = λ s s' shows o t step. forth_step C T (pruned pairs T) valid (choice T valid plain pairs closed) is_restriction (may T valid plain pairs closed) s s' shows o t step (stepping T valid plain pairs closed s shows.reachable o t step);
        goals = goal_forth C T (pruned pairs T) valid (choice T valid plain pairs closed) is_restriction (may T valid plain pairs closed);
      })
    where
      Show : List ℕ → List ℕ → Type 0
      Show = Shows C T (pruned pairs T) valid (choice T valid plain pairs closed) is_restriction (may T valid plain pairs closed)

-- what holds of the task itself, and of what is left of a plain one, holds of what the pass makes of it
of_either : (P : Task → Type 0) (T T' : Task) → IsPruned T T' → P T → (is_plain T ≡ true → (pairs : Pairs) → HasPossible T pairs → P (pruned pairs T)) → P T'
of_either P T T' is own alone =
    elim (cases_Bool (is_plain T)) [
      | inl plain ↦ let part = is.plain plain in subst P (sym part.same) (alone plain part.pairs part.are.closed)
      | inr other ↦ subst P (sym (is.other other)) own
    ]

pub pruned_valid : (T T' : Task) → IsValid T → IsPruned T T' → IsValid T'
pruned_valid T T' valid is = of_either IsValid T T' is valid (alone_valid T valid)

pub pruned_keeps : (T T' : Task) → IsValid T → IsPruned T T' → Keeps T T'
pruned_keeps T T' valid is = of_either (Keeps T) T T' is (keeps_itself T) (alone_keeps T valid)

-- the solutions are the same, with their names and costs
pub pruned_solves : (T T' : Task) → IsValid T → IsPruned T T' → (names : List (List ℕ)) (cost : ℕ) → HasSolution T names cost ↔ HasSolution T' names cost
pruned_solves T T' valid is names cost = (
  λ solution. of_either (λ t. HasSolution t names cost) T T' is solution (λ plain pairs closed. alone_solves T valid plain pairs closed names cost solution),
  (pruned_keeps T T' valid is).no_more names cost,
)

-- operators have the names and costs of the task's
pub pruned_costs : (T T' : Task) → IsPruned T T' → KeepsCosts T T'
pruned_costs T T' is =
    of_either (KeepsCosts T) T T' is (λ o' in'. (o', in', refl, refl)) (λ plain pairs closed o' in'.
    let C = possible_alone pairs T in
    let from = map_member (new_operator groups_once C) (filter (operator_stays C) T.operators) o' (ordered_member operator_cmp (map (new_operator groups_once C) (filter (operator_stays C) T.operators)) o' in') in
    (from.0, (filter_member (operator_stays C) T.operators from.0 from.1).0, ap (λ (o : Operator). o.name) from.2, ap (λ (o : Operator). o.cost) from.2))

pub one_set : (task : Task) (a b : Pairs) → ArePossible task a → ArePossible task b → a ≡ b
one_set task a b are are' = fun_ext (λ p. fun_ext (λ q. both_ways (a p q) (b p q) (are.least b are'.closed p q) (are'.least a are.closed p q)))

-- so it is one task
pub pruned_once : (T T' T'' : Task) → IsPruned T T' → IsPruned T T'' → T' ≡ T''
pruned_once T T' T'' is is' =
    elim (cases_Bool (is_plain T)) [
      | inl plain ↦ let a = is.plain plain in let b = is'.plain plain in a.same ∙ ap (λ pairs. pruned pairs T) (one_set T a.pairs b.pairs a.are b.are) ∙ sym b.same
      | inr other ↦ is.other other ∙ sym (is'.other other)
    ]
