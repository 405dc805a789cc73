use Rattle.std.proofs.Common.{[]}
use Rattle.std.proofs.lemmas.Result.{err_from_is_err_and}
use Rattle.sas_reader.specs.Contexts.{so_far}
use Rattle.sas_reader.specs.Pairs.{condition}
use Rattle.sas_reader.proofs.Listed.{goes_on, fails, is_done}
use Rattle.sas_reader.proofs.parts.condition_words.Goals as goal

pub returns-in_err-condition : goal.returns-in_err-condition
returns-in_err-condition c =
    let p = err_from_is_err_and c.from_residual.result c.from_residual.ensures.1 in
    rw (p.1, p.2) (fails (condition (so_far c.args.variables.now [])) c.in_err-condition.field-0.0 c.args.count c.loop.counter c.loop.pairs.items _ c.loop.reader _ c.loop-test.true c.as_slice.ensures.value c.in_err-condition.ensures c.loop.invariant)

pub loop-preserved : goal.loop-preserved
loop-preserved c =
    goes_on (condition (so_far c.args.variables.now [])) c.args.count c.loop.counter c.loop.pairs.items _ c.push.new.self.items c.in_ok-condition.field-0 c.loop.reader c.condition.new.reader _ c.loop-test.true c.as_slice.ensures.value c.in_ok-push.ensures.items c.in_ok-condition.ensures c.loop.invariant

pub returns : goal.returns
returns c = rw c.from_vec.ensures (is_done (condition (so_far c.args.variables.now [])) c.args.count c.loop.counter c.loop.pairs.items c.loop.reader _ c.loop-test.false c.loop.invariant)
