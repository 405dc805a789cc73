use Rattle.std.proofs.Common.{◌≡◌, List, map, fold, ap, ◌∙◌, subst}
use Rattle.std.specs.Prelude.{IfOk}
use Rattle.normal_task.specs.declared.task.GroundAtom.{GroundAtom}
use Rattle.ground_task.specs.GroundTask.{action_row as ground_action}
use Rattle.ground_task.specs.Settled.{kept_actions}
use Rattle.reached_task.specs.Rules.{added}
use Rattle.reached_task.specs.Reachable.{numbering, IsReachedBy}
use Rattle.relaxed_reach.proofs.Order.{added_in_order}
use Rattle.relaxed_reach.proofs.task.into_over.Goals as goal

pub returns : goal.returns
returns c =
    let found = c.args.found.now in
    let atoms : c.add_all.new.facts ≡ found = c.in_ok-add_all.ensures ∙ ap (λ (start : List GroundAtom). fold added start found) c.new-atoms.ensures ∙ added_in_order found c.requires in
    let left = c.in_ok-actions.ensures ∙ ap (λ rows. kept_actions (numbering c.add_all.new.facts) (map ground_action rows)) c.replace-actions.ensures.value in
    subst (λ (all : List GroundAtom). IfOk c.over.result (IsReachedBy c.args.task all)) atoms (c.over.ensures c.args.task.actions left)
