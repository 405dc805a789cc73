-- The task of the run, what passes make of it, the plan that is mapped back to this, and their text.
use Rattle.std.proofs.Common.{◌≡◌, rules, List, subst}
use Rattle.std.proofs.lemmas.Result.{IfOk-weaker, IfErr-weaker}
use Rattle.messages.specs.declared.outcome.End.TheVariants.{NoMemory}
use Rattle.pass_book.specs.declared.kind.PassKind.{PassKind}
use Rattle.pass_book.specs.Passes.{IsChain}
use Rattle.sas_task.specs.Output.{text_of}
use Rattle.run_task.specs.RunTask.{summary_of}
use Rattle.translator.specs.Ending.{Gives}
use Rattle.translator.specs.Plan.{plan_names}
use Rattle.translator.specs.Requests.{asked_by}
use Rattle.translator.specs.Run.{all_inputs, all_titles, ComesTo}
use Rattle.translator.specs.Stages.{IsRead, StopsReading, of_plan, output_by}
use Rattle.translator.specs.Store.{store}
use Rattle.translator.proofs.Sources.{run_stops, plan_stops, run_writes, passed_so, stops_too, asks_for_source, asks_for_plan}
use Rattle.translator.proofs.work.prepared.Goals as goal

pub returns-in_err-first-clause-err : goal.returns-in_err-first-clause-err
returns-in_err-first-clause-err g c =
    let stops = run_stops (asked_by c.args.request.now) (store g.F.Files c.args.files.now) (store g.F.Files c.made.new.files) _ c.in_err-first.ensures.err in
    search (rules, stops)

pub returns-in_err-first-clause-asks : goal.returns-in_err-first-clause-asks
returns-in_err-first-clause-asks g c = asks_for_source (asked_by c.args.request.now) (store g.F.Files c.args.files.now) (store g.F.Files c.made.new.files) c.in_err-first.ensures.asks

pub returns-in_err-made-clause-err : goal.returns-in_err-made-clause-err
returns-in_err-made-clause-err g c =
    let asked = asked_by c.args.request.now in
    stops_too (StopsReading (store g.F.Files c.args.files.now) (store g.F.Files c.made.new.files) (all_inputs asked) (all_titles asked) (λ held. ComesTo held asked)) NoMemory
    c.from_residual-in_err-made.result c.from_residual-in_err-made.ensures.1 c.in_ok-first.ensures.ok.0

pub returns-in_err-made-clause-asks : goal.returns-in_err-made-clause-asks
returns-in_err-made-clause-asks g c = asks_for_source (asked_by c.args.request.now) (store g.F.Files c.args.files.now) (store g.F.Files c.made.new.files) c.in_ok-first.ensures.asks

pub returns-clause-ok : goal.returns-clause-ok
returns-clause-ok g c =
    let asked = asked_by c.args.request.now in
    let task = c.in_ok-made.made.task in
    let found = c.in_ok-made.made.found in
    let before = store g.F.Files c.args.files.now in
    let mid = store g.F.Files c.made.new.files in
    let now = store g.F.Files c.to_be_written-written.new.files in
    let made_so = passed_so asked before mid c.in_ok-first.first.found found c.in_ok-first.first.task task c.in_ok-made.ensures.found (subst (λ (kinds : List PassKind). IsChain kinds c.in_ok-first.first.task task) c.as_slice.ensures.value c.in_ok-made.ensures.chain) c.in_ok-first.ensures.ok in
    IfOk-weaker c.to_be_written-written.result
    (λ written. (written.text.items ≡ text_of task) × (written.report.summary ≡ summary_of found task) × IsRead mid now (λ held. of_plan held asked.plan task ≡ Gives written.report.plan.items))
    (λ written. IsRead before now (λ held. ComesTo held asked (Gives (output_by written))))
    (λ written is. run_writes asked before mid found task c.in_ok-first.ensures.untouched made_so now written.report.plan.items written.text.items written.report.summary is.0 is.1 is.2)
    c.to_be_written-written.ensures.ok

pub returns-clause-err : goal.returns-clause-err
returns-clause-err g c =
    let asked = asked_by c.args.request.now in
    let task = c.in_ok-made.made.task in
    let found = c.in_ok-made.made.found in
    let before = store g.F.Files c.args.files.now in
    let mid = store g.F.Files c.made.new.files in
    let now = store g.F.Files c.to_be_written-written.new.files in
    let made_so = passed_so asked before mid c.in_ok-first.first.found found c.in_ok-first.first.task task c.in_ok-made.ensures.found (subst (λ (kinds : List PassKind). IsChain kinds c.in_ok-first.first.task task) c.as_slice.ensures.value c.in_ok-made.ensures.chain) c.in_ok-first.ensures.ok in
    IfErr-weaker c.to_be_written-written.result
    (StopsReading mid now (plan_names asked.plan) (plan_names asked.plan) (λ held e. of_plan held asked.plan task ≡ e))
    (StopsReading before now (all_inputs asked) (all_titles asked) (λ held. ComesTo held asked))
    (plan_stops asked before mid found task c.in_ok-first.ensures.untouched made_so now)
    c.to_be_written-written.ensures.err

pub returns-clause-asks : goal.returns-clause-asks
returns-clause-asks g c = asks_for_plan (asked_by c.args.request.now) (store g.F.Files c.args.files.now) (store g.F.Files c.made.new.files) (store g.F.Files c.to_be_written-written.new.files) c.in_ok-first.ensures.asks c.to_be_written-written.ensures.asks
