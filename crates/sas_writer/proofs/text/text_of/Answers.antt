use Rattle.std.proofs.Common.{◌++◌, ap, ◌∙◌}
use Rattle.std.specs.List.{enumerate_from}
use Rattle.sas_task.specs.Output.{bytes_of, counted, version_lines, metric_lines, variable_lines, group_lines, state_lines, goal_lines, operator_lines, rule_lines}
use Rattle.sas_writer.proofs.Pieces.{then_lines}
use Rattle.sas_writer.proofs.text.text_of.Goals as goal

pub returns : goal.returns
returns c =
    let task = c.args.task.now in
    let out = c.new-out.result.items in
    let metric = metric_lines task.metric in
    let variables = counted variable_lines (enumerate_from 0 task.variables) in
    let groups = counted group_lines task.groups in
    let state = state_lines task.state in
    let wanted = goal_lines task.goal in
    let operators = counted operator_lines task.operators in
    let rules = counted rule_lines task.rules in
    let e2 = then_lines version_lines metric out c.push_version.new.out.items c.push_metric.new.out.items c.in_ok-push_version.ensures
    (c.in_ok-push_metric.ensures ∙ ap (λ m. c.push_version.new.out.items ++ bytes_of (metric_lines m)) c.metric.ensures.value) in
    let e3 = then_lines (version_lines ++ metric) variables out c.push_metric.new.out.items c.push_variables.new.out.items e2 c.in_ok-push_variables.ensures in
    let e4 = then_lines (version_lines ++ metric ++ variables) groups out c.push_variables.new.out.items c.push_groups.new.out.items e3 c.in_ok-push_groups.ensures in
    let e5 = then_lines (version_lines ++ metric ++ variables ++ groups) state out c.push_groups.new.out.items c.push_state.new.out.items e4 c.in_ok-push_state.ensures in
    let e6 = then_lines (version_lines ++ metric ++ variables ++ groups ++ state) wanted out c.push_state.new.out.items c.push_goal.new.out.items e5
    (c.in_ok-push_goal.ensures ∙ ap (λ ps. c.push_state.new.out.items ++ bytes_of (goal_lines ps)) c.goal.ensures) in
    let e7 = then_lines (version_lines ++ metric ++ variables ++ groups ++ state ++ wanted) operators out c.push_goal.new.out.items c.push_operators.new.out.items e6 c.in_ok-push_operators.ensures in
    let e8 = then_lines (version_lines ++ metric ++ variables ++ groups ++ state ++ wanted ++ operators) rules out c.push_operators.new.out.items c.push_rules.new.out.items e7 c.in_ok-push_rules.ensures in
    e8 ∙ ap (λ o. o ++ bytes_of (version_lines ++ metric ++ variables ++ groups ++ state ++ wanted ++ operators ++ rules)) c.new-out.ensures.items
