-- The relevant variables are a choice for the task, and the restriction to it is the task with these variables alone.
use Rattle.std.proofs.Common.{sym, ap, ◌∙◌, subst}
use Rattle.sas_restriction.specs.Choice.{IsChoice}
use Rattle.sas_restriction.specs.Restriction.{restriction}
use Rattle.sas_restriction.proofs.Relevance.{relevant_below, choice}
use Rattle.sas_restriction.proofs.Reduced.{some_go, reduced_is}
use Rattle.pass_relevance.proofs.Left.{leaves, choice_is, busy_are}
use Rattle.pass_relevance.proofs.reduction.with_relevant_alone.Goals as goal

pub relevant_variables-requires : goal.relevant_variables-requires
relevant_variables-requires c = c.is_valid.ensures

pub all_values-requires : goal.all_values-requires
all_values-requires c = relevant_below c.args.task.now c.is_valid.ensures c.in_ok-vars.vars.items c.in_ok-vars.ensures

pub restrict-requires : goal.restrict-requires
restrict-requires c =
    let T = c.args.task.now in
    let vars = c.in_ok-vars.vars.items in
    record {
      marks = (
        leaves T vars,
        (c.as_slice.ensures.value ∙ c.in_ok-marks.ensures ∙ busy_are T vars c.in_ok-shown.shown c.in_ok-shown.ensures),
        subst (λ ch. IsChoice ch T) (sym (choice_is T vars c.in_ok-shown.shown c.in_ok-shown.ensures)) (choice T c.is_valid.ensures vars c.in_ok-vars.ensures),
      );
    }

pub returns : goal.returns
returns c =
    let T = c.args.task.now in
    let vars = c.in_ok-vars.vars.items in
    record {
      vars = vars;
      are = c.in_ok-vars.ensures;
      same = c.in_ok-new.ensures (leaves T vars) (c.as_slice.ensures.value ∙ c.in_ok-marks.ensures ∙ busy_are T vars c.in_ok-shown.shown c.in_ok-shown.ensures)
          ∙ ap (λ ch. restriction some_go ch T) (choice_is T vars c.in_ok-shown.shown c.in_ok-shown.ensures)
          ∙ sym (reduced_is T c.is_valid.ensures vars c.in_ok-vars.ensures);
    }
