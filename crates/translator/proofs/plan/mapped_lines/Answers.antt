use Rattle.std.proofs.Common.{ap, ◌∙◌}
use Rattle.lists.specs.declared.stop.Stop.TheVariants as stops
use Rattle.translator.specs.Stages.{text_by}
use Rattle.translator.proofs.Plans.{bad_line, unknown_step, lines_given}
use Rattle.translator.proofs.plan.mapped_lines.Goals as goal

pub returns-in-Ok-clause-ok : goal.returns-in-Ok-clause-ok
returns-in-Ok-clause-ok c = lines_given c.args.task.now (text_by c.args.plan.now) c.in-Ok.lines.items c.in-Ok.ensures.faultless c.in-Ok.ensures.text

pub returns-in-Err-Fault-BadLine-clause-err : goal.returns-in-Err-Fault-BadLine-clause-err
returns-in-Err-Fault-BadLine-clause-err c =
    bad_line _ _ _ c.in-Err-Fault-BadLine.field-0 c.in-Err-Fault-BadLine.line (c.in-Err-Fault-BadLine.field-0-is ∙ ap stops.Fault c.in-Err-Fault-BadLine.field-0-0-is) c.in-Err-Fault-BadLine.ensures.first

pub returns-in-Err-Fault-UnknownStep-clause-err : goal.returns-in-Err-Fault-UnknownStep-clause-err
returns-in-Err-Fault-UnknownStep-clause-err c =
    unknown_step _ _ _ c.in-Err-Fault-UnknownStep.field-0 c.in-Err-Fault-UnknownStep.line (c.in-Err-Fault-UnknownStep.field-0-is ∙ ap stops.Fault c.in-Err-Fault-UnknownStep.field-0-0-is) c.in-Err-Fault-UnknownStep.ensures.first
