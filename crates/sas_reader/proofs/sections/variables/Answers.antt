use Rattle.std.proofs.Common.{◌≡◌, length, refl, sym, subst, Ok, arith}
use Rattle.std.proofs.lemmas.Result.{err_from_is_err_and}
use Rattle.sas_reader.specs.Answers.{Fails}
use Rattle.sas_reader.specs.Sections.{variable}
use Rattle.sas_reader.proofs.Listed.{goes_on, fails, is_done}
use Rattle.sas_reader.proofs.sections.variables.Goals as goal

pub returns-in_err-variable : goal.returns-in_err-variable
returns-in_err-variable c =
    let p = err_from_is_err_and c.from_residual.result c.from_residual.ensures.1 in
    rw (p.1, p.2) (fails (λ before. variable (length before)) c.in_err-variable.field-0.0 c.args.count c.loop-number.number c.loop-number.variables.items c.loop-number.variables.items c.loop-number.reader _ c.loop-number-test.true refl
    (subst (λ n. Fails c.in_err-variable.field-0.0 (variable n c.loop-number.reader)) (sym c.loop-number.invariant.numbered) c.in_err-variable.ensures) c.loop-number.invariant.read)

pub loop-number-preserved : goal.loop-number-preserved
loop-number-preserved c = record {
  read = goes_on (λ before. variable (length before)) c.args.count c.loop-number.number c.loop-number.variables.items c.loop-number.variables.items c.push.new.self.items c.in_ok-variable.field-0 c.loop-number.reader c.variable.new.reader _ c.loop-number-test.true refl c.in_ok-push.ensures.items
      (subst (λ n. variable n c.loop-number.reader ≡ Ok (c.in_ok-variable.field-0, c.variable.new.reader)) (sym c.loop-number.invariant.numbered) c.in_ok-variable.ensures) c.loop-number.invariant.read;
  numbered = grind (arith, c.loop-number.invariant.numbered, c.in_ok-push.ensures.len);
}

pub returns : goal.returns
returns c = rw c.from_vec.ensures (is_done (λ before. variable (length before)) c.args.count c.loop-number.number c.loop-number.variables.items c.loop-number.reader _ c.loop-number-test.false c.loop-number.invariant.read)
