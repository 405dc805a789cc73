use Rattle.std.proofs.Common.{[], ◌∷◌, rules, Some}
use Rattle.lists.proofs.Members.{member_first}
use Rattle.translator.specs.Plan.{mapped_lines}
use Rattle.translator.specs.Stages.{of_plan}
use Rattle.translator.specs.Store.{store}
use Rattle.translator.specs.Texts.{text}
use Rattle.translator.proofs.OneFile.{stops_at_file, text_stops_so, text_given_so}
use Rattle.translator.proofs.Plans.{plan_begins, plan_told}
use Rattle.translator.proofs.work.lines_of_file.Goals as goal

pub returns-in_err-bytes-clause-err : goal.returns-in_err-bytes-clause-err
returns-in_err-bytes-clause-err g c =
    let stops = stops_at_file c.args.name.now (λ held. of_plan held (Some c.args.name.now) c.args.task.now) (mapped_lines c.args.task.now) (plan_begins c.args.name.now c.args.task.now)
    (store g.F.Files c.args.files.now) (store g.F.Files c.read_input.new.files) _ c.in_err-bytes.ensures.err in
    search (rules, stops)

pub returns-clause-ok : goal.returns-clause-ok
returns-clause-ok g c =
    text_given_so c.args.name.now (λ held. of_plan held (Some c.args.name.now) c.args.task.now) (mapped_lines c.args.task.now) (plan_begins c.args.name.now c.args.task.now)
    (store g.F.Files c.args.files.now) (store g.F.Files c.read_input.new.files) _ _ c.deref.ensures.value c.in_ok-bytes.ensures.ok (λ lines. lines.items) c.mapped_lines.result c.mapped_lines.ensures.ok

pub returns-clause-err : goal.returns-clause-err
returns-clause-err g c =
    text_stops_so c.args.name.now (λ held. of_plan held (Some c.args.name.now) c.args.task.now) (mapped_lines c.args.task.now) (plan_begins c.args.name.now c.args.task.now)
    (store g.F.Files c.args.files.now) (store g.F.Files c.read_input.new.files) _ _ c.deref.ensures.value c.in_ok-bytes.ensures.ok
    (plan_told (c.args.name.now ∷ []) c.args.task.now (text c.args.name.now c.deref.result.now) (member_first c.args.name.now [])) c.mapped_lines.result c.mapped_lines.ensures.err
