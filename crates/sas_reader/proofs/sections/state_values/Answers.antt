use Rattle.std.proofs.Common.{◌≡◌, ◌<◌, ◌≤◌, [], length, refl, sym, subst, Ok, arith}
use Rattle.std.proofs.lemmas.Result.{err_from_is_err_and}
use Rattle.sas_reader.specs.Answers.{Fails}
use Rattle.sas_reader.specs.Contexts.{so_far}
use Rattle.sas_reader.specs.Sections.{state_value}
use Rattle.sas_reader.proofs.Listed.{goes_on, fails, is_done}
use Rattle.sas_reader.proofs.sections.state_values.Goals as goal

pub returns-in_err-state_value : goal.returns-in_err-state_value
returns-in_err-state_value c =
    let p = err_from_is_err_and c.from_residual.result c.from_residual.ensures.1 in
    let vs = c.args.variables.now in
    let within : c.loop-var.var < length vs = omega arith in
    rw (p.1, p.2) (fails (λ before. state_value (so_far vs []) (length before)) c.in_err-state_value.field-0.0 (length vs) c.loop-var.var c.loop-var.values.items c.loop-var.values.items c.loop-var.reader _ within refl
    (subst (λ n. Fails c.in_err-state_value.field-0.0 (state_value (so_far vs []) n c.loop-var.reader)) (sym c.loop-var.invariant.numbered) c.in_err-state_value.ensures) c.loop-var.invariant.read)

pub loop-var-preserved : goal.loop-var-preserved
loop-var-preserved c =
    let vs = c.args.variables.now in
    let within : c.loop-var.var < length vs = omega arith in
    record {
      read = goes_on (λ before. state_value (so_far vs []) (length before)) (length vs) c.loop-var.var c.loop-var.values.items c.loop-var.values.items c.push.new.self.items c.in_ok-state_value.field-0 c.loop-var.reader c.state_value.new.reader _ within refl c.in_ok-push.ensures.items
          (subst (λ n. state_value (so_far vs []) n c.loop-var.reader ≡ Ok (c.in_ok-state_value.field-0, c.state_value.new.reader)) (sym c.loop-var.invariant.numbered) c.in_ok-state_value.ensures) c.loop-var.invariant.read;
      numbered = grind (arith, c.loop-var.invariant.numbered, c.in_ok-push.ensures.len);
    }

pub returns : goal.returns
returns c =
    let vs = c.args.variables.now in
    let past : length vs ≤ c.loop-var.var = omega arith in
    rw c.from_vec.ensures (is_done (λ before. state_value (so_far vs []) (length before)) (length vs) c.loop-var.var c.loop-var.values.items c.loop-var.reader _ past c.loop-var.invariant.read)
