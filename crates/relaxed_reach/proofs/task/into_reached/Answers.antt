use Rattle.std.proofs.Common.{◌≡◌, List, sym, ap, ◌∙◌, subst}
use Rattle.std.specs.Prelude.{IfOk}
use Rattle.std.specs.List.Sorted.{IsStrictlySortedBy}
use Rattle.normal_task.specs.declared.task.GroundAtom.{GroundAtom}
use Rattle.reached_task.specs.Reachable.{fact_cmp, IsReachedBy}
use Rattle.relaxed_reach.proofs.Left.{is_reached, is_lawful, is_counted}
use Rattle.relaxed_reach.proofs.task.into_reached.Goals as goal

pub into_over-requires : goal.into_over-requires
into_over-requires g c = subst (IsStrictlySortedBy fact_cmp) (sym (c.as_slice.ensures.value ∙ c.in_ok-copies.ensures)) c.in_ok-atoms.ensures.reachable.in_order

pub returns-clause-reached : goal.returns-clause-reached
returns-clause-reached g c =
    let is : IfOk c.into_over.result (IsReachedBy c.args.task c.in_ok-atoms.atoms) = subst (λ (found : List GroundAtom). IfOk c.into_over.result (IsReachedBy c.args.task found)) (c.as_slice.ensures.value ∙ c.in_ok-copies.ensures) c.into_over.ensures in
    is_reached c.args.task c.in_ok-atoms.atoms c.into_over.result is c.in_ok-atoms.ensures.reachable

pub returns-clause-lawful : goal.returns-clause-lawful
returns-clause-lawful g c =
    let is : IfOk c.into_over.result (IsReachedBy c.args.task c.in_ok-atoms.atoms) = subst (λ (found : List GroundAtom). IfOk c.into_over.result (IsReachedBy c.args.task found)) (c.as_slice.ensures.value ∙ c.in_ok-copies.ensures) c.into_over.ensures in
    is_lawful c.args.task c.in_ok-atoms.atoms c.into_over.result is c.in_ok-atoms.ensures.reachable c.requires.lawful

pub returns-clause-counted : goal.returns-clause-counted
returns-clause-counted g c =
    let is : IfOk c.into_over.result (IsReachedBy c.args.task c.in_ok-atoms.atoms) = subst (λ (found : List GroundAtom). IfOk c.into_over.result (IsReachedBy c.args.task found)) (c.as_slice.ensures.value ∙ c.in_ok-copies.ensures) c.into_over.ensures in
    is_counted c.args.task c.in_ok-atoms.atoms c.into_over.result is c.args.steps.now c.reachable_in_order.new.steps c.in_ok-atoms.ensures.counted

pub returns-clause-most : goal.returns-clause-most
returns-clause-most g c facts reachable = c.in_ok-atoms.ensures.most facts reachable.least.closed

pub returns-in_err-atoms-clause-most : goal.returns-in_err-atoms-clause-most
returns-in_err-atoms-clause-most g c facts reachable = c.in_err-atoms.ensures.most facts reachable.least.closed

pub returns-in_err-copies-clause-most : goal.returns-in_err-copies-clause-most
returns-in_err-copies-clause-most g c facts reachable = c.in_ok-atoms.ensures.most facts reachable.least.closed
