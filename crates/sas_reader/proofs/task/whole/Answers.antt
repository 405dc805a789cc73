use Rattle.std.proofs.Common.{[], length, sym, ap, ◌∙◌}
use Rattle.sas_reader.specs.Contexts.{so_far}
use Rattle.sas_reader.proofs.Sectioned.{state_read}
use Rattle.sas_reader.proofs.WholeText.{task_read, parts_read}
use Rattle.sas_reader.proofs.task.whole.Goals as goal

pub rule_section-requires : goal.rule_section-requires
rule_section-requires c =
    ap length c.as_slice-6.ensures
    ∙ (state_read (so_far c.as_slice-2.result.now []) c.begin-4.new.self c.in_ok-state.state c.state_section.new.reader c.in_ok-state.ensures).1
    ∙ ap length (c.as_slice-2.ensures ∙ sym c.as_slice-5.ensures)

pub from_parts-requires : goal.from_parts-requires
from_parts-requires c =
    let all = parts_read c.args.bytes.now _ c.begin.new.self c.begin-2.new.self c.begin-3.new.self c.begin-4.new.self c.begin-5.new.self c.begin-6.new.self c.begin-7.new.self c.begin-8.new.self
    c.version.new.reader c.metric.new.reader c.variable_section.new.reader c.group_section.new.reader c.state_section.new.reader c.goal_section.new.reader c.operator_section.new.reader c.rule_section.new.reader c.end.new.self
    c.as_slice.result.now c.as_slice-2.result.now c.as_slice-3.result.now c.as_slice-4.result.now c.as_slice-5.result.now c.in_ok-variables.variables c.as_slice-6.result.now c.in_ok-state.state
    c.in_ok-metric.metric c.in_ok-groups.groups c.in_ok-goal.goal c.in_ok-operators.operators c.in_ok-rules.rules
    c.new-reader.ensures c.begin.ensures c.begin-2.ensures c.begin-3.ensures c.begin-4.ensures c.begin-5.ensures c.begin-6.ensures c.begin-7.ensures c.begin-8.ensures
    c.as_slice.ensures c.as_slice-2.ensures c.as_slice-3.ensures c.as_slice-4.ensures c.as_slice-5.ensures c.as_slice-6.ensures
    c.in_ok-version.ensures c.in_ok-metric.ensures c.in_ok-variables.ensures c.in_ok-groups.ensures c.in_ok-state.ensures c.in_ok-goal.ensures c.in_ok-operators.ensures c.in_ok-rules.ensures c.in_ok-end.ensures in
    (task_read c.args.bytes.now _ c.end.new.self all).0

pub returns : goal.returns
returns c =
    let all = parts_read c.args.bytes.now _ c.begin.new.self c.begin-2.new.self c.begin-3.new.self c.begin-4.new.self c.begin-5.new.self c.begin-6.new.self c.begin-7.new.self c.begin-8.new.self
    c.version.new.reader c.metric.new.reader c.variable_section.new.reader c.group_section.new.reader c.state_section.new.reader c.goal_section.new.reader c.operator_section.new.reader c.rule_section.new.reader c.end.new.self
    c.as_slice.result.now c.as_slice-2.result.now c.as_slice-3.result.now c.as_slice-4.result.now c.as_slice-5.result.now c.in_ok-variables.variables c.as_slice-6.result.now c.in_ok-state.state
    c.in_ok-metric.metric c.in_ok-groups.groups c.in_ok-goal.goal c.in_ok-operators.operators c.in_ok-rules.rules
    c.new-reader.ensures c.begin.ensures c.begin-2.ensures c.begin-3.ensures c.begin-4.ensures c.begin-5.ensures c.begin-6.ensures c.begin-7.ensures c.begin-8.ensures
    c.as_slice.ensures c.as_slice-2.ensures c.as_slice-3.ensures c.as_slice-4.ensures c.as_slice-5.ensures c.as_slice-6.ensures
    c.in_ok-version.ensures c.in_ok-metric.ensures c.in_ok-variables.ensures c.in_ok-groups.ensures c.in_ok-state.ensures c.in_ok-goal.ensures c.in_ok-operators.ensures c.in_ok-rules.ensures c.in_ok-end.ensures in
    (c.end.new.self, rw c.from_parts.ensures all)
