use Rattle.std.proofs.Common.{sym, ap, ◌∙◌}
use Rattle.std.specs.Bool.{then_some}
use Rattle.pddl_syntax.specs.declared.types.Init.{Init}
use Rattle.fault_positions.specs.Initial.{denied_position}
use Rattle.fault_positions.specs.Positions.{earliest}
use Rattle.fault_positions.proofs.AtomKeys.{denied_if}
use Rattle.fault_positions.proofs.initial.denied_position.Goals as goal

pub returns-in_ok-key-in-HoldsNot : goal.returns-in_ok-key-in-HoldsNot
returns-in_ok-key-in-HoldsNot c = λ init stated.
    c.then_some.ensures ∙ ap (λ b. then_some b c.in-HoldsNot.at) c.contains.ensures
    ∙ denied_if c.in_ok-key-in-HoldsNot.key c.in-HoldsNot.atom c.in_ok-key-in-HoldsNot.ensures c.args.stated.now c.in-HoldsNot.at init stated
    ∙ ap (λ (entry : Init). earliest (denied_position init entry)) (sym c.in-HoldsNot.is)
