use Rattle.std.proofs.Common.{rules}
use Rattle.messages.specs.Messages.{summary_lines}
use Rattle.messages.proofs.Printing.{both_printed, plan_broke}
use Rattle.messages.proofs.message.say_report.Goals as goal
use Rattle.tl_device.proofs.Known.{part_of_first}

pub returns-in_err-say_summary-clause-err : goal.returns-in_err-say_summary-clause-err
returns-in_err-say_summary-clause-err g c =
    let broke = part_of_first (g.C.Console.printed c.args.console.now) (g.C.Console.printed c.say_summary.new.console) (summary_lines c.args.report.now.summary) c.args.report.now.plan.items c.in_err-say_summary.ensures.err in
    search (rules, broke)

pub returns-clause-ok : goal.returns-clause-ok
returns-clause-ok g c =
    both_printed (g.C.Console.printed c.args.console.now) (g.C.Console.printed c.say_summary.new.console) (g.C.Console.printed c.say_all.new.console) (summary_lines c.args.report.now.summary) c.args.report.now.plan.items
    c.deref.result.now c.deref.ensures.value c.say_all.result c.in_ok-say_summary.ensures.ok c.say_all.ensures.ok

pub returns-clause-err : goal.returns-clause-err
returns-clause-err g c =
    plan_broke (g.C.Console.printed c.args.console.now) (g.C.Console.printed c.say_summary.new.console) (g.C.Console.printed c.say_all.new.console) (summary_lines c.args.report.now.summary) c.args.report.now.plan.items
    c.deref.result.now c.deref.ensures.value c.say_all.result c.in_ok-say_summary.ensures.ok c.say_all.ensures.err
