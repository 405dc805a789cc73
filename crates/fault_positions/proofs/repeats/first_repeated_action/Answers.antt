use Rattle.std.proofs.Common.{◌≡◌, rules, List, map, IfOk, subst}
use Rattle.pddl_syntax.specs.declared.types.Action.{Action}
use Rattle.pddl_syntax.specs.Words.{Name}
use Rattle.fault_positions.specs.Positions.{earliest}
use Rattle.fault_positions.specs.Names.{repeats_after}
use Rattle.fault_positions.proofs.repeats.first_repeated_action.Goals as goal

pub returns : goal.returns
returns c =
    subst (λ (before : List Name). IfOk c.first_repeat.result (λ at. at ≡ earliest (repeats_after before (map (λ (item : Action). item.name) c.args.actions.now)))) c.new.ensures
    (c.first_repeat.ensures (λ (item : Action). item.name) (λ item name called. search rules))
