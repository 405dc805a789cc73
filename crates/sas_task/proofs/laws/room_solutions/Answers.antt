-- Somebody enters the room and turns on the light, at the cost of both.
use Rattle.std.proofs.Common.{◌≡◌, ◌≢◌, ℕ, zero, suc, List, [], ◌∷◌, map, length, sum, get_or, codes, refl, sym, ap, ◌∙◌, subst, inl, inr, arith}
use Rattle.std.specs.List.{Contains, All}
use Rattle.std.proofs.lemmas.Bool.{false≢true}
use Rattle.lists.proofs.Members.{member_cases, member_single, all_from_members}
use Rattle.runs.specs.Runs.{Leads}
use Rattle.sas_task.specs.declared.parts.Effect.{Effect}
use Rattle.sas_task.specs.declared.parts.Operator.{Operator}
use Rattle.sas_task.specs.Solution.{Fires, Step, MeetsGoal, HasSolution, cost_in}
use Rattle.sas_task.specs.Examples.{room, enter, press, toggle}
use Rattle.sas_task.proofs.laws.room_solutions.Goals as goal

abbrev in_hall : List ℕ
in_hall = 0 ∷ 1 ∷ 1 ∷ 1 ∷ []

abbrev in_room : List ℕ
in_room = 1 ∷ 1 ∷ 1 ∷ 1 ∷ []

abbrev in_light : List ℕ
in_light = 1 ∷ 0 ∷ 1 ∷ 1 ∷ []

abbrev entered : Effect
entered = record { conditions = []; var = 0; after = 1 }

abbrev pressed : Effect
pressed = record { conditions = []; var = 1; after = 0 }

enters : Step room in_hall enter in_room
enters =
    record {
      of_task = (0, omega arith, refl);
      applicable = refl;
      successor = record {
        sets = all_from_members (λ e. Fires room in_hall e → get_or in_room e.var 0 ≡ e.after) (entered ∷ []) (λ e in' fires. subst (λ (e : Effect). get_or in_room e.var 0 ≡ e.after) (member_single entered e in') refl);
        keeps = λ var below none. others var none;
        same_variables = refl;
      };
    }
  where
    others : (var : ℕ) → All (λ e. Fires room in_hall e → e.var ≢ var) (entered ∷ []) → get_or in_room var 0 ≡ get_or in_hall var 0
    others zero none = absurd (none 0 entered (omega arith) refl refl)
    others (suc var) none = refl

presses : Step room in_room press in_light
presses =
    record {
      of_task = (1, omega arith, refl);
      applicable = refl;
      successor = record {
        sets = all_from_members (λ e. Fires room in_room e → get_or in_light e.var 0 ≡ e.after) (pressed ∷ []) (λ e in' fires. subst (λ (e : Effect). get_or in_light e.var 0 ≡ e.after) (member_single pressed e in') refl);
        keeps = λ var below none. others var none;
        same_variables = refl;
      };
    }
  where
    others : (var : ℕ) → All (λ e. Fires room in_room e → e.var ≢ var) (pressed ∷ []) → get_or in_light var 0 ≡ get_or in_room var 0
    others zero none = refl
    others (suc zero) none = absurd (none 0 pressed (omega arith) refl refl)
    others (suc (suc var)) none = refl

-- the operators of these names cost so much
other_name : (a b : List ℕ) (x y : ℕ) → get_or a 0 0 ≡ x → get_or b 0 0 ≡ y → x ≢ y → a ≡ b → ⊥
other_name a b x y at-a at-b other same = other (sym at-a ∙ ap (λ bs. get_or bs 0 0) same ∙ at-b)

costs : (o : Operator) → Contains room.operators o → (o.name ≡ codes "enter room" → o.cost ≡ 3) × (o.name ≡ codes "press" → o.cost ≡ 0)
costs o in' =
    elim (member_cases enter o (press ∷ toggle ∷ []) in') [
      | inl is ↦ (λ name. ap (λ (o : Operator). o.cost) (sym is), λ name. absurd (other_name (codes "enter room") (codes "press") 101 112 refl refl (λ e. absurd (omega arith)) (ap (λ (o : Operator). o.name) is ∙ name)))
      | inr later ↦ elim (member_cases press o (toggle ∷ []) later) [
        | inl is ↦ (λ name. absurd (other_name (codes "press") (codes "enter room") 112 101 refl refl (λ e. absurd (omega arith)) (ap (λ (o : Operator). o.name) is ∙ name)), λ name. ap (λ (o : Operator). o.cost) (sym is))
        | inr last ↦
            let is : toggle ≡ o = member_single toggle o last in (
              λ name. absurd (other_name (codes "toggle") (codes "enter room") 116 101 refl refl (λ e. absurd (omega arith)) (ap (λ (o : Operator). o.name) is ∙ name)),
              λ name. absurd (other_name (codes "toggle") (codes "press") 116 112 refl refl (λ e. absurd (omega arith)) (ap (λ (o : Operator). o.name) is ∙ name)),
            )
      ]
    ]

no_steps : (cost : ℕ) → HasSolution room [] cost → ⊥
no_steps cost has = by_steps has.steps has.end has.leads has.meets has.same_names
  where
    by_steps : (steps : List Operator) (end : List ℕ) → Leads (Step room) in_hall steps end → MeetsGoal room end → map (λ (o : Operator). o.name) steps ≡ [] → ⊥
    by_steps [] end leads meets names = false≢true (subst (MeetsGoal room) leads meets)
    by_steps (o ∷ steps) end leads meets names = let count : suc (length (map (λ (o : Operator). o.name) steps)) ≡ 0 = ap length names in absurd (omega arith)

one_cost : (cost : ℕ) → HasSolution room (codes "enter room" ∷ codes "press" ∷ []) cost → cost ≡ 3
one_cost cost has = by_steps has.steps has.end has.leads has.same_names has.same_cost
  where
    by_steps : (steps : List Operator) (end : List ℕ) → Leads (Step room) in_hall steps end → map (λ (o : Operator). o.name) steps ≡ codes "enter room" ∷ codes "press" ∷ [] → sum (map (cost_in room) steps) ≡ cost → cost ≡ 3
    by_steps [] end leads names total = let count : zero ≡ suc (suc zero) = ap length names in absurd (omega (arith, count))
    by_steps (a ∷ []) end leads names total = let count : suc zero ≡ suc (suc zero) = ap length names in absurd (omega (arith, count))
    by_steps (a ∷ b ∷ []) end leads names total =
        let first : a.cost ≡ 3 = (costs a leads.1.of_task).0 (ap (λ ns. get_or ns 0 []) names) in
        let second : b.cost ≡ 0 = (costs b leads.2.1.of_task).1 (ap (λ ns. get_or ns 1 []) names) in
        sym total ∙ ap (λ n. sum (n ∷ b.cost ∷ [])) first ∙ ap (λ n. sum (3 ∷ n ∷ [])) second
    by_steps (a ∷ b ∷ c ∷ steps) end leads names total = let count : suc (suc (suc (length (map (λ (o : Operator). o.name) steps)))) ≡ 2 = ap length names in absurd (omega arith)

pub returns : goal.returns
returns c =
    record {
      solved = record { steps = enter ∷ press ∷ []; end = in_light; leads = (in_room, enters, (in_light, presses, refl)); meets = refl; same_names = refl; same_cost = refl };
      no_steps = no_steps;
      one_cost = one_cost;
    }
