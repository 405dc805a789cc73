-- Both facts hold at the start, so the group is false, and soundness is lost.
use Rattle.std.proofs.Common.{◌≡◌, zero, suc, List, [], ◌∷◌, codes, refl, sym, ap, ◌∙◌, subst, inl, inr, arith}
use Rattle.std.specs.List.{Contains}
use Rattle.lists.proofs.Members.{member_cases, member_single}
use Rattle.sas_task.specs.declared.parts.Pair.{Pair}
use Rattle.sas_task.specs.declared.parts.Effect.{Effect}
use Rattle.sas_task.specs.declared.parts.Operator.{Operator}
use Rattle.sas_task.specs.Keeps.{GroupsAreExclusive, IsSound}
use Rattle.sas_task.specs.Solution.{NeverDisagrees}
use Rattle.sas_task.specs.Pairs.{pair}
use Rattle.sas_task.specs.Examples.{switch, grouped_switch}
use Rattle.sas_task.proofs.Checks.{valid_from_test}
use Rattle.sas_task.proofs.laws.added_group.Goals as goal

not_exclusive : GroupsAreExclusive grouped_switch → ⊥
not_exclusive exclusive =
    let one : pair 0 1 ≡ pair 1 0 = exclusive grouped_switch.state ([], refl) 0 (record { facts = [] }) (omega arith) (pair 0 1) (pair 1 0) (0, omega arith, refl) (1, omega arith, refl) refl refl in
    apart (ap (λ (p : Pair). p.var) one)
  where
    apart : zero ≡ suc zero → ⊥
    apart same = absurd (omega (arith, same))

-- each effect of the one operator gives its variable the value that is the variable's number
abbrev effects : List Effect
effects = record { conditions = []; var = 0; after = 0 } ∷ record { conditions = []; var = 1; after = 1 } ∷ []

after_is : (e : Effect) → Contains effects e → e.after ≡ e.var
after_is e in' =
    elim (member_cases (record { conditions = []; var = 0; after = 0 }) e (record { conditions = []; var = 1; after = 1 } ∷ []) in') [
      | inl is ↦ subst (λ (e : Effect). e.after ≡ e.var) is refl
      | inr later ↦ subst (λ (e : Effect). e.after ≡ e.var) (member_single (record { conditions = []; var = 1; after = 1 }) e later) refl
    ]

agrees : NeverDisagrees switch
agrees state operator reached in' applicable a b in-a in-b fires-a fires-b same =
    let flip : record { name = codes "flip"; conditions = pair 1 0 ∷ []; effects = effects; cost = 1 } ≡ operator = member_single (record { name = codes "flip"; conditions = pair 1 0 ∷ []; effects = effects; cost = 1 }) operator in' in
    after_is a (subst (λ (o : Operator). Contains o.effects a) (sym flip) in-a) ∙ same ∙ sym (after_is b (subst (λ (o : Operator). Contains o.effects b) (sym flip) in-b))

sound : IsSound switch
sound = record { exclusive = λ state reached k d below. absurd (omega arith); agrees = agrees }

pub returns : goal.returns
returns c =
    record { valid = valid_from_test grouped_switch refl; false_group = not_exclusive; not_kept = λ keeps. not_exclusive (keeps.sound sound).exclusive }
