-- The variables in their order are a choice for the task, and the restriction to it is the reordered task.
use Rattle.std.proofs.Common.{◌<◌, length, sym, ap, ◌∙◌, subst}
use Rattle.std.specs.List.{All}
use Rattle.sas_restriction.specs.Choice.{IsChoice}
use Rattle.sas_restriction.specs.Restriction.{restriction}
use Rattle.sas_restriction.proofs.Order.{order_below, choice}
use Rattle.sas_restriction.proofs.Reordered.{all_stay, reordered_is}
use Rattle.task_simplifier.proofs.Reorders.{all_leave, shown_is}
use Rattle.task_simplifier.proofs.reordered.order_variables.Goals as goal

pub all_values-requires : goal.all_values-requires
all_values-requires c = subst (All (λ v. v < length c.args.task.now.variables)) (sym c.in_ok-vars.ensures) (order_below c.args.task.now)

pub restrict-requires : goal.restrict-requires
restrict-requires c =
    record {
      marks = (
        all_leave,
        (c.as_slice.ensures.value ∙ c.in_ok-marks.ensures),
        subst (λ ch. IsChoice ch c.args.task.now) (sym (shown_is c.args.task.now c.in_ok-vars.vars.items c.in_ok-shown.shown c.in_ok-vars.ensures c.in_ok-shown.ensures)) (choice c.args.task.now c.is_valid.ensures),
      );
    }

pub returns : goal.returns
returns c =
    c.in_ok-new.ensures all_leave (c.as_slice.ensures.value ∙ c.in_ok-marks.ensures)
    ∙ ap (λ ch. restriction all_stay ch c.args.task.now) (shown_is c.args.task.now c.in_ok-vars.vars.items c.in_ok-shown.shown c.in_ok-vars.ensures c.in_ok-shown.ensures)
    ∙ sym (reordered_is c.args.task.now c.is_valid.ensures)
