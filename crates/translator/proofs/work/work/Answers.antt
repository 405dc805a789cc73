use Rattle.std.proofs.Common.{refl, inl}
use Rattle.translator.specs.Requests.{asked_by}
use Rattle.translator.specs.Store.{store}
use Rattle.translator.specs.Stages.{output_by}
use Rattle.translator.proofs.Sources.{ends_too, unaccepted, stopped, asks_as_named, asks_before}
use Rattle.translator.proofs.Output.{work_written, work_unwritten}
use Rattle.translator.proofs.work.work.Goals as goal

pub returns-in_err-request-clause-ends : goal.returns-in_err-request-clause-ends
returns-in_err-request-clause-ends g c =
    let before = store g.F.Files c.args.files.now in
    ends_too before before _ _ c.from_residual.result c.from_residual.ensures.1 (unaccepted before _ _ c.in_err-request.ensures.err)

pub returns-in_err-written-clause-ends : goal.returns-in_err-written-clause-ends
returns-in_err-written-clause-ends g c =
    let before = store g.F.Files c.args.files.now in
    let now = store g.F.Files c.prepared.new.files in
    ends_too before now _ _ c.from_residual-in_err-written.result c.from_residual-in_err-written.ensures.1
    (stopped before now _ (asked_by c.in_ok-request.request) c.in_ok-request.ensures.ok c.in_err-written.ensures.untouched _ c.in_err-written.ensures.err)

pub returns-in-Ok-clause-ends : goal.returns-in-Ok-clause-ends
returns-in-Ok-clause-ends g c =
    work_written (store g.F.Files c.args.files.now) (store g.F.Files c.prepared.new.files) (store g.F.Files c.write_output.new.files) _ (asked_by c.in_ok-request.request) (output_by c.in_ok-written.written) _
    c.in_ok-request.ensures.ok c.in_ok-written.ensures.untouched c.in_ok-written.ensures.ok c.deref.ensures.value c.in-Ok.ensures.ok c.in-Ok.ensures.cause.same c.in-Ok.ensures.reads

pub returns-clause-ends : goal.returns-clause-ends
returns-clause-ends g c =
    work_unwritten (store g.F.Files c.args.files.now) (store g.F.Files c.prepared.new.files) (store g.F.Files c.write_output.new.files) _ (asked_by c.in_ok-request.request) (output_by c.in_ok-written.written) _
    c.in_ok-request.ensures.ok c.in_ok-written.ensures.untouched c.in_ok-written.ensures.ok c.deref.ensures.value c.in-Err.ensures.err c.in-Err.ensures.cause.later c.in-Err.ensures.cause.rose c.in-Err.ensures.reads

pub returns-in_err-request-clause-asks : goal.returns-in_err-request-clause-asks
returns-in_err-request-clause-asks g c = inl refl

pub returns-in_err-written-clause-asks : goal.returns-in_err-written-clause-asks
returns-in_err-written-clause-asks g c = asks_as_named (store g.F.Files c.args.files.now) (store g.F.Files c.prepared.new.files) _ (asked_by c.in_ok-request.request) c.in_ok-request.ensures.ok c.in_err-written.ensures.asks

pub returns-in-Ok-clause-asks : goal.returns-in-Ok-clause-asks
returns-in-Ok-clause-asks g c = asks_before (store g.F.Files c.args.files.now) (store g.F.Files c.prepared.new.files) (store g.F.Files c.write_output.new.files) _ (asks_as_named (store g.F.Files c.args.files.now) (store g.F.Files c.prepared.new.files) _ (asked_by c.in_ok-request.request) c.in_ok-request.ensures.ok c.in_ok-written.ensures.asks) c.in-Ok.ensures.asked

pub returns-clause-asks : goal.returns-clause-asks
returns-clause-asks g c = asks_before (store g.F.Files c.args.files.now) (store g.F.Files c.prepared.new.files) (store g.F.Files c.write_output.new.files) _ (asks_as_named (store g.F.Files c.args.files.now) (store g.F.Files c.prepared.new.files) _ (asked_by c.in_ok-request.request) c.in_ok-request.ensures.ok c.in_ok-written.ensures.asks) c.in-Err.ensures.asked

pub prepared-requires : goal.prepared-requires
prepared-requires g c = c.in_ok-request.ensures.held
