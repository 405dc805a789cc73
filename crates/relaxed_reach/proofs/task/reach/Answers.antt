use Rattle.std.proofs.Common.{◌≡◌, map, sym, ap, ◌∙◌}
use Rattle.std.specs.Prelude.{IfOk}
use Rattle.ground_task.specs.GroundTask.{action_row as ground_action}
use Rattle.ground_task.specs.Settled.{kept_actions}
use Rattle.reached_task.specs.Reachable.{numbering, IsReachedBy}
use Rattle.relaxed_reach.proofs.Left.{is_reached, is_lawful, is_counted}
use Rattle.relaxed_reach.proofs.task.reach.Goals as goal

pub returns-clause-reached : goal.returns-clause-reached
returns-clause-reached g c =
    let task = c.args.task.now in
    let atoms = c.in_ok-atoms.atoms in
    let is : IfOk c.over.result (IsReachedBy task atoms) = c.over.ensures task.actions (c.in_ok-actions.ensures ∙ ap (λ rows. kept_actions (numbering atoms) (map ground_action rows)) c.as_slice.ensures) in
    is_reached task atoms c.over.result is c.in_ok-atoms.ensures.reachable

pub returns-clause-lawful : goal.returns-clause-lawful
returns-clause-lawful g c =
    let task = c.args.task.now in
    let atoms = c.in_ok-atoms.atoms in
    let is : IfOk c.over.result (IsReachedBy task atoms) = c.over.ensures task.actions (c.in_ok-actions.ensures ∙ ap (λ rows. kept_actions (numbering atoms) (map ground_action rows)) c.as_slice.ensures) in
    is_lawful task atoms c.over.result is c.in_ok-atoms.ensures.reachable c.requires.lawful

pub returns-clause-counted : goal.returns-clause-counted
returns-clause-counted g c =
    let task = c.args.task.now in
    let atoms = c.in_ok-atoms.atoms in
    let is : IfOk c.over.result (IsReachedBy task atoms) = c.over.ensures task.actions (c.in_ok-actions.ensures ∙ ap (λ rows. kept_actions (numbering atoms) (map ground_action rows)) c.as_slice.ensures) in
    is_counted task atoms c.over.result is c.args.steps.now c.reachable_in_order.new.steps c.in_ok-atoms.ensures.counted

pub returns-clause-most : goal.returns-clause-most
returns-clause-most g c facts reachable = c.in_ok-atoms.ensures.most facts reachable.least.closed

pub returns-in_err-atoms-clause-most : goal.returns-in_err-atoms-clause-most
returns-in_err-atoms-clause-most g c facts reachable = c.in_err-atoms.ensures.most facts reachable.least.closed

pub returns-in_err-actions-clause-most : goal.returns-in_err-actions-clause-most
returns-in_err-actions-clause-most g c facts reachable = c.in_ok-atoms.ensures.most facts reachable.least.closed
