-- The possible values and operators are a choice for the task, and the restriction to it is the task with these alone.
use Rattle.std.proofs.Common.{map, sym, ap, ◌∙◌, subst}
use Rattle.std.proofs.lemmas.Result.{IfOk-weaker}
use Rattle.sas_restriction.specs.Choice.{IsChoice}
use Rattle.sas_restriction.specs.Restriction.{restriction}
use Rattle.pass_possible.specs.Possible.{is_possible}
use Rattle.pass_possible.specs.Pruned.{groups_once}
use Rattle.pass_possible.proofs.Alone.{choice}
use Rattle.pass_h2.specs.Finds.{found}
use Rattle.pass_h2.proofs.pruning.with_marked_alone.Goals as goal

pub restrict-requires : goal.restrict-requires
restrict-requires c =
    let T = c.args.task.now in
    let pairs = found c.mark_possible.new.table in
    record {
      marks = (
        is_possible pairs,
        (c.as_slice.ensures.value ∙ c.in_ok-marks.ensures ∙ ap (map (is_possible pairs)) c.operator_slice.ensures),
        subst (λ ch. IsChoice ch T) (sym c.in_ok-shown.ensures) (choice T c.is_valid.ensures c.requires.plain pairs c.in_ok-mark_possible.ensures.closed),
      );
    }

pub returns : goal.returns
returns c =
    let T = c.args.task.now in
    let pairs = found c.mark_possible.new.table in
    let marked = c.as_slice.ensures.value ∙ c.in_ok-marks.ensures ∙ ap (map (is_possible pairs)) c.operator_slice.ensures in
    IfOk-weaker c.restrict.result _ _ (λ new is. record {
      pairs = pairs;
      are = c.in_ok-mark_possible.ensures;
      same = is (is_possible pairs) marked ∙ ap (λ ch. restriction groups_once ch T) c.in_ok-shown.ensures;
    }) c.restrict.ensures
