use Rattle.std.proofs.Common.{refl}
use Rattle.std.proofs.lemmas.Result.{err_from_is_err_and}
use Rattle.sas_reader.specs.Sections.{fact_name}
use Rattle.sas_reader.proofs.Listed.{goes_on, fails, is_done}
use Rattle.sas_reader.proofs.sections.fact_names.Goals as goal

pub returns-in_err-fact_name : goal.returns-in_err-fact_name
returns-in_err-fact_name c =
    let p = err_from_is_err_and c.from_residual.result c.from_residual.ensures.1 in
    rw (p.1, p.2) (fails (λ _. fact_name) c.in_err-fact_name.field-0.0 c.args.count c.loop.counter c.loop.names.items _ c.loop.reader _ c.loop-test.true refl c.in_err-fact_name.ensures c.loop.invariant)

pub loop-preserved : goal.loop-preserved
loop-preserved c =
    goes_on (λ _. fact_name) c.args.count c.loop.counter c.loop.names.items _ c.push.new.self.items c.in_ok-fact_name.field-0 c.loop.reader c.fact_name.new.reader _ c.loop-test.true refl c.in_ok-push.ensures.items c.in_ok-fact_name.ensures c.loop.invariant

pub returns : goal.returns
returns c = rw c.from_vec.ensures (is_done (λ _. fact_name) c.args.count c.loop.counter c.loop.names.items c.loop.reader _ c.loop-test.false c.loop.invariant)
