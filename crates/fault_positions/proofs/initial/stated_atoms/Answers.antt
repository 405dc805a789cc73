use Rattle.std.proofs.Common.{List, ◌∷◌, [], ◌++◌, take, sym, ap, subst, ◌∙◌}
use Rattle.std.proofs.lemmas.List.{take_more}
use Rattle.pddl_syntax.specs.declared.types.Init.{Init}
use Rattle.fault_positions.specs.AtomTables.{HasStated}
use Rattle.fault_positions.proofs.initial.stated_atoms.Goals as goal

pub loop-entry-preserved : goal.loop-entry-preserved
loop-entry-preserved c =
    let init = c.args.init.now in
    let i = c.loop-entry.entry-index in
    subst (λ (entries : List Init). HasStated c.add_stated.new.stated entries)
    (ap (λ (entry : Init). take i init ++ entry ∷ []) c.entry-item.is ∙ sym (take_more init i c.entry-item.result c.loop-entry-test.true))
    (c.in_ok-add_stated.ensures {u = tt} (take i init) c.loop-entry.invariant)
