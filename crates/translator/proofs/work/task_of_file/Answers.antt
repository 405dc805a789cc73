use Rattle.std.proofs.Common.{[], ◌∷◌, rules}
use Rattle.lists.proofs.Members.{member_first}
use Rattle.command_line.specs.Accepted.{WrittenTask}
use Rattle.translator.specs.Run.{of_source, of_task_text}
use Rattle.run_task.specs.RunTask.{FromTask}
use Rattle.translator.specs.Store.{store}
use Rattle.translator.proofs.OneFile.{stops_at_file, text_stops, text_given}
use Rattle.translator.proofs.WrittenTasks.{task_begins, task_told, task_made_so}
use Rattle.translator.proofs.work.task_of_file.Goals as goal

pub returns-in_err-bytes-clause-err : goal.returns-in_err-bytes-clause-err
returns-in_err-bytes-clause-err g c =
    let stops = stops_at_file c.args.name.now (λ held. of_source held (WrittenTask c.args.name.now)) of_task_text (task_begins c.args.name.now)
    (store g.F.Files c.args.files.now) (store g.F.Files c.read_input.new.files) _ c.in_err-bytes.ensures.err in
    search (rules, stops)

pub returns-in_err-task-clause-err : goal.returns-in_err-task-clause-err
returns-in_err-task-clause-err g c =
    let stops = text_stops c.args.name.now (λ held. of_source held (WrittenTask c.args.name.now)) of_task_text (task_begins c.args.name.now)
    (store g.F.Files c.args.files.now) (store g.F.Files c.read_input.new.files) _ _ c.deref.ensures.value c.in_ok-bytes.ensures.ok
    (task_told (c.args.name.now ∷ []) c.args.name.now c.deref.result.now (member_first c.args.name.now [])) _ c.in_err-task.ensures.err in
    search (rules, stops)

pub returns-clause-ok : goal.returns-clause-ok
returns-clause-ok g c settings =
    let before = store g.F.Files c.args.files.now in
    let now = store g.F.Files c.read_input.new.files in
    task_made_so c.args.name.now before now settings c.nothing_found-found.result c.in_ok-task.task c.nothing_found-found.ensures
    (text_given c.args.name.now (λ held. of_source held (WrittenTask c.args.name.now)) of_task_text (task_begins c.args.name.now) before now _ _ c.deref.ensures.value c.in_ok-bytes.ensures.ok
    (FromTask c.in_ok-task.task) c.in_ok-task.ensures.ok)
