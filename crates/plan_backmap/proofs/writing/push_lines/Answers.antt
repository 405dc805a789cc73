use Rattle.std.proofs.Common.{ℕ, Option, ap, ◌∙◌, ◌+◌}
use Rattle.plan_backmap.specs.declared.plan.Step.{Step}
use Rattle.plan_backmap.specs.Lines.{trimmed}
use Rattle.plan_backmap.proofs.Cuts.{smaller}
use Rattle.plan_backmap.proofs.PassedLines.{written_fault, written_line}
use Rattle.plan_backmap.proofs.writing.push_lines.Goals as goal

pub returns-in-Err-clause-first : goal.returns-in-Err-clause-first
returns-in-Err-clause-first c =
    written_fault c.args.costs.now.operators c.args.bytes.now c.loop-rest.number c.loop-rest.total c.loop-rest.rest.now _ _ c.loop-rest.invariant c.in-len1-up.len_at_least
    c.trimmed.result.now (c.trimmed.ensures ∙ ap trimmed c.first_line.ensures) (Option Step) ℕ c.in-Err.stop c.in-Err.ensures.fault

pub loop-rest-smaller : goal.loop-rest-smaller
loop-rest-smaller c = smaller c.loop-rest.rest.now c.after_line-rest.result.now c.in-len1-up.len_at_least c.after_line-rest.ensures

pub loop-rest-preserved : goal.loop-rest-preserved
loop-rest-preserved c =
    written_line c.args.costs.now.operators c.args.bytes.now c.loop-rest.number c.loop-rest.total c.loop-rest.rest.now _ _ c.loop-rest.invariant c.in-len1-up.len_at_least
    c.trimmed.result.now (c.trimmed.ensures ∙ ap trimmed c.first_line.ensures) c.after_line-rest.result.now c.after_line-rest.ensures c.in-Ok.ensures.faultless
    c.in-Ok.found c.in-Ok.ensures.step c.in-Ok.ensures.small _ (ap (λ n. c.loop-rest.total + n) c.step_cost-total.ensures.cost) _ c.in_ok-push_found.ensures

pub loop-rest-smaller-in_ok-push_found : goal.loop-rest-smaller-in_ok-push_found
loop-rest-smaller-in_ok-push_found c = smaller c.loop-rest.rest.now c.after_line-rest.result.now c.in-len1-up.len_at_least c.after_line-rest.ensures

pub loop-rest-preserved-in_ok-push_found : goal.loop-rest-preserved-in_ok-push_found
loop-rest-preserved-in_ok-push_found c =
    written_line c.args.costs.now.operators c.args.bytes.now c.loop-rest.number c.loop-rest.total c.loop-rest.rest.now _ _ c.loop-rest.invariant c.in-len1-up.len_at_least
    c.trimmed.result.now (c.trimmed.ensures ∙ ap trimmed c.first_line.ensures) c.after_line-rest.result.now c.after_line-rest.ensures c.in-Ok.ensures.faultless
    c.in-Ok.found c.in-Ok.ensures.step c.in-Ok.ensures.small _ (ap (λ n. c.loop-rest.total + n) c.step_cost-total.ensures.cost) _ c.in_ok-push_found.ensures
