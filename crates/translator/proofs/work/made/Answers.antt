use Rattle.std.proofs.Common.{◌≡◌, [], sym, subst}
use Rattle.std.specs.Prelude.{IfOk, IfErr}
use Rattle.command_line.specs.Accepted.{source_by}
use Rattle.command_line.specs.declared.accepted.Source.{Source}
use Rattle.translator.specs.Run.{of_source, inputs, titles}
use Rattle.translator.specs.Stages.{IsMadeOf, IsRead, StopsReading}
use Rattle.translator.specs.Store.{store}
use Rattle.translator.proofs.Sources.{made_stops_so, made_so}
use Rattle.translator.proofs.work.made.Goals as goal

pub returns-in-Made-clause-ok : goal.returns-in-Made-clause-ok
returns-in-Made-clause-ok g c =
    let before = store g.F.Files c.args.files.now in
    subst (λ (s : Source). IfOk c.made_task.result (λ made. IsRead before before (λ held. IsMadeOf (of_source held (source_by s)) c.args.accepted.now.settings [] made.found made.task))) (sym c.in-Made.is)
    (made_so c.in-Made.balls before c.args.accepted.now.settings c.made_task.result c.made_task.ensures.ok)

pub returns-in-Made-clause-err : goal.returns-in-Made-clause-err
returns-in-Made-clause-err g c =
    let before = store g.F.Files c.args.files.now in
    subst (λ (s : Source). IfErr c.made_task.result (StopsReading before before (inputs (source_by s)) (titles (source_by s)) (λ held e. of_source held (source_by s) ≡ e))) (sym c.in-Made.is)
    (made_stops_so c.in-Made.balls before c.made_task.result c.made_task.ensures.err)

pub returns-in-WrittenTask-clause-ok : goal.returns-in-WrittenTask-clause-ok
returns-in-WrittenTask-clause-ok g c =
    let before = store g.F.Files c.args.files.now in
    let now = store g.F.Files c.task_of_file.new.files in
    subst (λ (s : Source). IfOk c.task_of_file.result (λ made. IsRead before now (λ held. IsMadeOf (of_source held (source_by s)) c.args.accepted.now.settings [] made.found made.task))) (sym c.in-WrittenTask.is)
    (c.task_of_file.ensures.ok c.args.accepted.now.settings)
