-- The room's parts in another order are its parts, and an operator with another cost is none of them.
use Rattle.std.proofs.Common.{◌≡◌, false, eqb, List, [], ◌∷◌, refl, sym, ◌∙◌, subst, inl, inr, arith}
use Rattle.std.specs.List.{Contains, list_any}
use Rattle.std.proofs.lemmas.Bool.{false≢true, eq-eqb}
use Rattle.lists.proofs.Members.{no_member, member_first, member_later, member_cases, member_single, member_any}
use Rattle.lists.specs.SameMembers.{SameMembers}
use Rattle.sas_task.specs.declared.parts.Operator.{Operator}
use Rattle.sas_task.specs.declared.parts.Rule.{Rule}
use Rattle.sas_task.specs.Alike.{IsAlike, HasAlike}
use Rattle.sas_task.specs.Pairs.{pair}
use Rattle.sas_task.specs.AlikeExamples.{toggle_at, room_turned}
use Rattle.sas_task.specs.Examples.{room_operators, enter, press, toggle, flicker}
use Rattle.sas_task.proofs.Alike.{operator_back}
use Rattle.sas_task.proofs.laws.alike_examples.Goals as goal

swapped : {X : Type 0} (x y z : X) → Contains (x ∷ y ∷ []) z → Contains (y ∷ x ∷ []) z
swapped x y z in' =
    elim (member_cases x z (y ∷ []) in') [
      | inl is ↦ subst (Contains (y ∷ x ∷ [])) is (member_later y x (x ∷ []) (member_first x []))
      | inr later ↦ subst (Contains (y ∷ x ∷ [])) (member_single y z later) (member_first y (x ∷ []))
    ]

same_two : {X : Type 0} (x y : X) → SameMembers (x ∷ y ∷ []) (y ∷ x ∷ [])
same_two x y z = (swapped x y z, swapped y x z)

itself : (o : Operator) → IsAlike o o
itself o = record { name = refl; conditions = refl; effects = λ e. ((λ in'. in'), (λ in'. in')); cost = refl }

toggle_alike : IsAlike toggle (toggle_at 10)
toggle_alike =
    record {
      name = refl;
      conditions = refl;
      effects = same_two (record { conditions = pair 0 1 ∷ pair 2 0 ∷ []; var = 1; after = 1 }) (record { conditions = pair 1 1 ∷ []; var = 1; after = 0 });
      cost = refl;
    }

there : (o : Operator) → Contains room_operators o → HasAlike room_turned.operators o
there o in' =
    elim (member_cases enter o (press ∷ toggle ∷ []) in') [
      | inl is ↦ subst (HasAlike room_turned.operators) is (record { operator = enter; listed = (2, omega arith, refl); alike = itself enter })
      | inr later ↦ elim (member_cases press o (toggle ∷ []) later) [
        | inl is ↦ subst (HasAlike room_turned.operators) is (record { operator = press; listed = (1, omega arith, refl); alike = itself press })
        | inr last ↦ subst (HasAlike room_turned.operators) (member_single toggle o last) (record { operator = toggle_at 10; listed = (0, omega arith, refl); alike = toggle_alike })
      ]
    ]

of_press : HasAlike room_operators press
of_press = record { operator = press; listed = (1, omega arith, refl); alike = itself press }

back : (o : Operator) → Contains room_turned.operators o → HasAlike room_operators o
back o in' =
    elim (member_cases (toggle_at 10) o (press ∷ enter ∷ press ∷ []) in') [
      | inl is ↦ subst (HasAlike room_operators) is (record { operator = toggle; listed = (2, omega arith, refl); alike = operator_back toggle (toggle_at 10) toggle_alike })
      | inr later ↦ elim (member_cases press o (enter ∷ press ∷ []) later) [
        | inl is ↦ subst (HasAlike room_operators) is of_press
        | inr more ↦ elim (member_cases enter o (press ∷ []) more) [
          | inl is ↦ subst (HasAlike room_operators) is (record { operator = enter; listed = (0, omega arith, refl); alike = itself enter })
          | inr last ↦ subst (HasAlike room_operators) (member_single press o last) of_press
        ]
      ]
    ]

-- no operator of the list has this cost
no_alike : (operators : List Operator) (o : Operator) → list_any (λ (p : Operator). eqb o.cost p.cost) operators ≡ false → HasAlike operators o → ⊥
no_alike operators o none has =
    false≢true (sym none ∙ member_any (λ (p : Operator). eqb o.cost p.cost) operators has.operator has.listed (eq-eqb o.cost has.operator.cost has.alike.cost))

pub returns-clause-turned : goal.returns-clause-turned
returns-clause-turned c =
    record {
      metric = refl;
      variables = refl;
      groups = λ g. ((λ in'. in'), (λ in'. in'));
      state = refl;
      goal = refl;
      operators = there;
      back = back;
      rules = same_two (record { conditions = pair 0 1 ∷ pair 1 0 ∷ []; var = 2; before = 1; after = 0 }) (record { conditions = pair 2 0 ∷ []; var = 3; before = 1; after = 0 });
    }

pub returns-clause-missing : goal.returns-clause-missing
returns-clause-missing c is = no_alike (enter ∷ press ∷ []) toggle refl (is.operators toggle (2, omega arith, refl))

pub returns-clause-added : goal.returns-clause-added
returns-clause-added c is = no_alike room_operators flicker refl (is.back flicker (0, omega arith, refl))

pub returns-clause-cost : goal.returns-clause-cost
returns-clause-cost c is = no_alike (enter ∷ press ∷ toggle_at 11 ∷ []) toggle refl (is.operators toggle (2, omega arith, refl))

pub returns-clause-no_rule : goal.returns-clause-no_rule
returns-clause-no_rule c is =
    let first : Rule = record { conditions = pair 2 0 ∷ []; var = 3; before = 1; after = 0 } in no_member first ((is.rules first).0 (1, omega arith, refl))
