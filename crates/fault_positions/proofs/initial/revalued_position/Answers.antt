use Rattle.std.proofs.Common.{◌≡◌, ◌==◌, ◌∷◌, [], ◌++◌, None, Some, not, if◌then◌else◌, refl, sym, ap, subst, ◌∙◌}
use Rattle.pddl_syntax.specs.declared.types.Init.{Init}
use Rattle.pddl_syntax.specs.declared.types.Init.TheVariants.{Holds, HoldsNot}
use Rattle.pddl_syntax.specs.Holds.{ground}
use Rattle.pddl_syntax.specs.Step.{value_in}
use Rattle.fault_positions.specs.AtomTables.{HasValues}
use Rattle.fault_positions.specs.Initial.{is_another, revalued_position}
use Rattle.fault_positions.specs.Positions.{earliest}
use Rattle.fault_positions.proofs.AtomKeys.{value_before, values_as_before, values_kept, values_more, position_if}
use Rattle.fault_positions.proofs.initial.revalued_position.Goals as goal

pub returns-in-Holds-clause-noted : goal.returns-in-Holds-clause-noted
returns-in-Holds-clause-noted c = λ before known.
    subst (λ (entry : Init). HasValues c.args.values.now (before ++ entry ∷ [])) (sym c.in-Holds.is) (values_as_before c.args.values.now before (Holds c.in-Holds.field-0) (λ term. refl) known)

pub returns-in-HoldsNot-clause-noted : goal.returns-in-HoldsNot-clause-noted
returns-in-HoldsNot-clause-noted c = λ before known.
    subst (λ (entry : Init). HasValues c.args.values.now (before ++ entry ∷ [])) (sym c.in-HoldsNot.is)
    (values_as_before c.args.values.now before (HoldsNot c.in-HoldsNot.field-0 c.in-HoldsNot.field-1) (λ term. refl) known)

pub returns-in-Some-clause-at : goal.returns-in-Some-clause-at
returns-in-Some-clause-at c = λ before known.
    let own = value_before c.in_ok-key-in-Value.key c.in-Value.term c.in_ok-key-in-Value.ensures c.args.values.now before known in
    let had : value_in before (ground [] c.in-Value.term) ≡ Some c.in-Some.known.now = sym own ∙ sym c.in-Some.ensures.value in
    c.then_some.ensures ∙ position_if (not (c.in-Some.known.now == c.in-Value.value)) c.in-Value.at
    ∙ ap (λ o. earliest (if is_another o c.in-Value.value then c.in-Value.at ∷ [] else [])) (sym had)
    ∙ ap (λ (entry : Init). earliest (revalued_position before entry)) (sym c.in-Value.is)

pub returns-in-Some-clause-noted : goal.returns-in-Some-clause-noted
returns-in-Some-clause-noted c = λ before known.
    let own = value_before c.in_ok-key-in-Value.key c.in-Value.term c.in_ok-key-in-Value.ensures c.args.values.now before known in
    let had : value_in before (ground [] c.in-Value.term) ≡ Some c.in-Some.known.now = sym own ∙ sym c.in-Some.ensures.value in
    subst (λ (entry : Init). HasValues c.args.values.now (before ++ entry ∷ [])) (sym c.in-Value.is)
    (values_kept c.args.values.now before c.in-Value.term c.in-Value.value c.in-Value.at c.in-Some.known.now had known)

pub returns-in_ok-insert-in-None-clause-at : goal.returns-in_ok-insert-in-None-clause-at
returns-in_ok-insert-in-None-clause-at c = λ before known.
    let own = value_before c.in_ok-key-in-Value.key c.in-Value.term c.in_ok-key-in-Value.ensures c.args.values.now before known in
    let none : value_in before (ground [] c.in-Value.term) ≡ None = sym own ∙ sym c.in-None.ensures.value in
    ap (λ o. earliest (if is_another o c.in-Value.value then c.in-Value.at ∷ [] else [])) (sym none)
    ∙ ap (λ (entry : Init). earliest (revalued_position before entry)) (sym c.in-Value.is)

pub returns-in_ok-insert-in-None-clause-noted : goal.returns-in_ok-insert-in-None-clause-noted
returns-in_ok-insert-in-None-clause-noted c = λ before known.
    let more = values_more c.in_ok-key-in-Value.key c.in-Value.term c.in_ok-key-in-Value.ensures c.args.values.now c.insert.new.self c.in-Value.value c.in-Value.at
    (sym c.in-None.ensures.value) c.in_ok-insert-in-None.ensures.entries before known in
    subst (λ (entry : Init). HasValues c.insert.new.self (before ++ entry ∷ [])) (sym c.in-Value.is) more
