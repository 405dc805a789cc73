use Rattle.std.proofs.Common.{Option, ap, ◌∙◌, ◌+◌}
use Rattle.plan_backmap.specs.declared.plan.Mapped.{Mapped}
use Rattle.plan_backmap.specs.declared.plan.Step.{Step}
use Rattle.plan_backmap.specs.Lines.{trimmed}
use Rattle.plan_backmap.proofs.Cuts.{smaller}
use Rattle.plan_backmap.proofs.PassedLines.{fault_here, passed_line}
use Rattle.plan_backmap.proofs.mapping.map_lines.Goals as goal

pub returns-in-Err-clause-first : goal.returns-in-Err-clause-first
returns-in-Err-clause-first c =
    fault_here c.args.costs.now.operators c.args.bytes.now c.loop-rest.number c.loop-rest.steps.items c.loop-rest.total c.loop-rest.rest.now c.loop-rest.invariant c.in-len1-up.len_at_least
    c.trimmed.result.now (c.trimmed.ensures ∙ ap trimmed c.first_line.ensures) (Option Step) Mapped c.in-Err.stop c.in-Err.ensures.fault

pub loop-rest-smaller : goal.loop-rest-smaller
loop-rest-smaller c = smaller c.loop-rest.rest.now c.after_line-rest.result.now c.in-len1-up.len_at_least c.after_line-rest.ensures

pub loop-rest-preserved : goal.loop-rest-preserved
loop-rest-preserved c =
    passed_line c.args.costs.now.operators c.args.bytes.now c.loop-rest.number c.loop-rest.steps.items c.loop-rest.total c.loop-rest.rest.now c.loop-rest.invariant c.in-len1-up.len_at_least
    c.trimmed.result.now (c.trimmed.ensures ∙ ap trimmed c.first_line.ensures) c.after_line-rest.result.now c.after_line-rest.ensures c.in-Ok.ensures.faultless
    c.in-Ok.found c.in-Ok.ensures.step c.in-Ok.ensures.small c.add_step.new.steps.items _ c.in_ok-add_step.ensures
    (ap (λ n. c.loop-rest.total + n) c.step_cost-total.ensures.cost)
