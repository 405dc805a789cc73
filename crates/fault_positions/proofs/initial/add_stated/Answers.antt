use Rattle.std.proofs.Common.{◌∷◌, [], ◌++◌, sym, subst}
use Rattle.pddl_syntax.specs.declared.types.Init.{Init}
use Rattle.fault_positions.specs.AtomTables.{HasStated}
use Rattle.fault_positions.proofs.AtomKeys.{stated_more}
use Rattle.fault_positions.proofs.initial.add_stated.Goals as goal

pub returns-in_ok-insert-in-Holds : goal.returns-in_ok-insert-in-Holds
returns-in_ok-insert-in-Holds c = λ before stated.
    let more = stated_more c.in_ok-key_of-in-Holds.field-0 c.in-Holds.atom c.in_ok-key_of-in-Holds.ensures c.args.stated.now c.insert.new.self c.in_ok-insert-in-Holds.ensures.keys before stated in
    subst (λ (entry : Init). HasStated c.insert.new.self (before ++ entry ∷ [])) (sym c.in-Holds.is) more
