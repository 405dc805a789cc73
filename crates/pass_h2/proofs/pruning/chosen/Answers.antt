-- The possible values are a list for each variable.
use Rattle.std.proofs.Common.{ap, ◌∙◌}
use Rattle.std.specs.List.{range_with_len}
use Rattle.std.proofs.lemmas.Result.{IfOk-weaker}
use Rattle.pass_h2.specs.Finds.{found}
use Rattle.pass_h2.proofs.Left.{choice_is, inside, rising}
use Rattle.pass_h2.proofs.pruning.chosen.Goals as goal

pub new-requires-clause-inside : goal.new-requires-clause-inside
new-requires-clause-inside c = inside c.args.task.now (found c.args.table.now) c.in_ok-vars.vars.items c.in_ok-values.values.items (c.in_ok-vars.ensures ∙ ap (range_with_len 0) c.variables.ensures) c.in_ok-values.ensures

pub new-requires-clause-rising : goal.new-requires-clause-rising
new-requires-clause-rising c = rising c.args.task.now (found c.args.table.now) c.in_ok-vars.vars.items c.in_ok-values.values.items (c.in_ok-vars.ensures ∙ ap (range_with_len 0) c.variables.ensures) c.in_ok-values.ensures

pub returns : goal.returns
returns c =
    IfOk-weaker c.new.result _ _ (choice_is c.args.task.now (found c.args.table.now) c.in_ok-vars.vars.items c.in_ok-values.values.items (c.in_ok-vars.ensures ∙ ap (range_with_len 0) c.variables.ensures) c.in_ok-values.ensures) c.new.ensures
