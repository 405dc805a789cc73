use Rattle.std.proofs.Common.{◌≡◌, ◌+◌, List, ◌∷◌, [], ◌++◌, take, take_all, get_or, sym, ap, subst, ◌∙◌}
use Rattle.std.proofs.lemmas.List.{take_more}
use Rattle.pddl_syntax.specs.declared.types.Init.{Init}
use Rattle.fault_positions.specs.AtomTables.{HasValues}
use Rattle.fault_positions.specs.Initial.{revalued_after, revalued_position}
use Rattle.fault_positions.specs.Positions.{earlier, earliest}
use Rattle.fault_positions.proofs.InitialEntries.{revalued_more}
use Rattle.fault_positions.proofs.initial.first_revalued.Goals as goal

pub loop-entry-preserved : goal.loop-entry-preserved
loop-entry-preserved c =
    let init = c.as_slice-entry-items.result.now in
    let i = c.loop-entry.entry-index in
    let entry = c.entry-item.result in
    let before = take i init in
    let one_more : before ++ entry ∷ [] ≡ take (i + 1) init =
    ap (λ (item : Init). before ++ item ∷ []) c.entry-item.is ∙ sym (take_more init i entry c.loop-entry-test.true) in
    let found : c.in_ok-revalued_position.field-0 ≡ earliest (revalued_position before (get_or init i entry)) =
    c.in_ok-revalued_position.ensures.at before c.loop-entry.invariant.known ∙ ap (λ (item : Init). earliest (revalued_position before item)) c.entry-item.is in
    record {
      known = subst (λ (entries : List Init). HasValues c.revalued_position.new.values entries) one_more (c.in_ok-revalued_position.ensures.noted before c.loop-entry.invariant.known);
      found = c.earlier-first.ensures ∙ (λ j. earlier (c.loop-entry.invariant.found j) (found j)) ∙ sym (revalued_more init i entry c.loop-entry-test.true);
    }

pub returns : goal.returns
returns c =
    c.loop-entry.invariant.found
    ∙ ap (λ entries. earliest (revalued_after [] entries)) (take_all c.loop-entry.entry-index c.as_slice-entry-items.result.now c.loop-entry-test.false ∙ c.as_slice-entry-items.ensures)
