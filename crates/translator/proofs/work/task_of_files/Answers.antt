use Rattle.std.proofs.Common.{rules}
use Rattle.translator.specs.Store.{store}
use Rattle.translator.proofs.Sources.{stops_at_domain, stops_at_problem, both_read, texts_stop_so, texts_made_so, asks_for_domain, asks_for_both}
use Rattle.translator.proofs.work.task_of_files.Goals as goal

pub returns-in_err-domain_bytes-clause-err : goal.returns-in_err-domain_bytes-clause-err
returns-in_err-domain_bytes-clause-err g c =
    let stops = stops_at_domain c.args.domain.now c.args.problem.now (store g.F.Files c.args.files.now) (store g.F.Files c.read_input.new.files) _ c.in_err-domain_bytes.ensures.err in
    search (rules, stops)

pub returns-in_err-problem_bytes-clause-err : goal.returns-in_err-problem_bytes-clause-err
returns-in_err-problem_bytes-clause-err g c =
    let stops = stops_at_problem c.args.domain.now c.args.problem.now (store g.F.Files c.args.files.now) (store g.F.Files c.read_input.new.files) c.in_ok-domain_bytes.domain_bytes.items
    c.in_ok-domain_bytes.ensures.untouched c.in_ok-domain_bytes.ensures.ok (store g.F.Files c.read_input-2.new.files) _ c.in_err-problem_bytes.ensures.err in
    search (rules, stops)

pub returns-clause-ok : goal.returns-clause-ok
returns-clause-ok g c =
    let before = store g.F.Files c.args.files.now in
    let now = store g.F.Files c.read_input-2.new.files in
    let read = both_read c.args.domain.now c.args.problem.now before (store g.F.Files c.read_input.new.files) c.in_ok-domain_bytes.domain_bytes.items
    c.in_ok-domain_bytes.ensures.untouched c.in_ok-domain_bytes.ensures.ok now c.in_ok-problem_bytes.problem_bytes.items c.in_ok-problem_bytes.ensures.ok in
    texts_made_so c.args.domain.now c.args.problem.now before now _ _ _ _ c.deref.ensures.value c.deref-2.ensures.value read c.args.settings c.task_of.result c.task_of.ensures.ok

pub returns-clause-err : goal.returns-clause-err
returns-clause-err g c =
    let before = store g.F.Files c.args.files.now in
    let now = store g.F.Files c.read_input-2.new.files in
    let read = both_read c.args.domain.now c.args.problem.now before (store g.F.Files c.read_input.new.files) c.in_ok-domain_bytes.domain_bytes.items
    c.in_ok-domain_bytes.ensures.untouched c.in_ok-domain_bytes.ensures.ok now c.in_ok-problem_bytes.problem_bytes.items c.in_ok-problem_bytes.ensures.ok in
    texts_stop_so c.args.domain.now c.args.problem.now before now _ _ _ _ c.deref.ensures.value c.deref-2.ensures.value read c.task_of.result c.task_of.ensures.err

pub returns-in_err-domain_bytes-clause-asks : goal.returns-in_err-domain_bytes-clause-asks
returns-in_err-domain_bytes-clause-asks g c = asks_for_domain c.args.domain.now c.args.problem.now (store g.F.Files c.args.files.now) (store g.F.Files c.read_input.new.files) c.in_err-domain_bytes.ensures.asks

pub returns-in_err-problem_bytes-clause-asks : goal.returns-in_err-problem_bytes-clause-asks
returns-in_err-problem_bytes-clause-asks g c = asks_for_both c.args.domain.now c.args.problem.now (store g.F.Files c.args.files.now) (store g.F.Files c.read_input.new.files) (store g.F.Files c.read_input-2.new.files) c.in_ok-domain_bytes.ensures.asks c.in_err-problem_bytes.ensures.asks

pub returns-clause-asks : goal.returns-clause-asks
returns-clause-asks g c = asks_for_both c.args.domain.now c.args.problem.now (store g.F.Files c.args.files.now) (store g.F.Files c.read_input.new.files) (store g.F.Files c.read_input-2.new.files) c.in_ok-domain_bytes.ensures.asks c.in_ok-problem_bytes.ensures.asks
