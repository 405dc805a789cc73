use Rattle.std.proofs.Common.{◌≡◌, [], refl, ap, ◌∙◌, subst, Ok}
use Rattle.std.proofs.lemmas.Result.{err_from_is_err_and}
use Rattle.sas_reader.specs.Answers.{Fails}
use Rattle.sas_reader.specs.Forms.{line}
use Rattle.sas_reader.specs.Contexts.{so_far}
use Rattle.sas_reader.specs.Operators.{effect}
use Rattle.sas_reader.proofs.Listed.{goes_on, fails, is_done}
use Rattle.sas_reader.proofs.operators.effect_lines.Goals as goal

pub returns-in_err-effect-clause-read : goal.returns-in_err-effect-clause-read
returns-in_err-effect-clause-read c =
    let p = err_from_is_err_and c.from_residual-in_err-effect.result c.from_residual-in_err-effect.ensures.1 in
    rw (p.1, p.2) (fails (λ earlier. line (effect (so_far c.args.variables.now []) c.args.prevail earlier)) c.in_err-effect.field-0.0 c.args.count c.loop.counter c.loop.required.1 c.loop.required.1 c.loop.reader _ c.loop-test.true refl
    (subst (λ ps. Fails c.in_err-effect.field-0.0 (line (effect (so_far c.args.variables.now []) ps c.loop.required.1) c.loop.reader)) c.loop.invariant.prevail c.in_err-effect.ensures) c.loop.invariant.read)

pub loop-preserved : goal.loop-preserved
loop-preserved c = record {
  read = goes_on (λ earlier. line (effect (so_far c.args.variables.now []) c.args.prevail earlier)) c.args.count c.loop.counter c.loop.required.1 c.loop.required.1 c.in_ok-required-2.required.1 (c.in_ok-effect.effect, c.in_ok-effect.value_before) c.loop.reader c.effect_line.new.reader _ c.loop-test.true refl
      (ap (λ r. r.1) c.in_ok-required-2.ensures)
      (subst (λ ps. line (effect (so_far c.args.variables.now []) ps c.loop.required.1) c.loop.reader ≡ Ok ((c.in_ok-effect.effect, c.in_ok-effect.value_before), c.effect_line.new.reader)) c.loop.invariant.prevail c.in_ok-effect.ensures) c.loop.invariant.read;
  prevail = ap (λ r. r.0) c.in_ok-required-2.ensures ∙ c.loop.invariant.prevail;
}

pub returns-clause-read : goal.returns-clause-read
returns-clause-read c = is_done (λ earlier. line (effect (so_far c.args.variables.now []) c.args.prevail earlier)) c.args.count c.loop.counter c.loop.required.1 c.loop.reader _ c.loop-test.false c.loop.invariant.read
