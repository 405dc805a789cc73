use Rattle.std.proofs.Common.{refl}
use Rattle.std.proofs.lemmas.Result.{err_from_is_err_and}
use Rattle.sas_reader.specs.Sections.{variable}
use Rattle.sas_reader.proofs.Listed.{stops}
use Rattle.sas_reader.proofs.sections.variable.Goals as goal

pub returns-in_err-layer : goal.returns-in_err-layer
unfolding variable
returns-in_err-layer c =
    let p = err_from_is_err_and c.from_residual-in_err-layer.result c.from_residual-in_err-layer.ensures.1 in
    rw (p.1, p.2, c.in_ok-fixed.ensures, c.in_ok-variable_name.ensures) (stops c.in_err-layer.field-0.0 _ _ c.in_err-layer.ensures)

pub returns-in_err-range : goal.returns-in_err-range
unfolding variable
returns-in_err-range c =
    let p = err_from_is_err_and c.from_residual-in_err-range.result c.from_residual-in_err-range.ensures.1 in
    rw (p.1, p.2, c.in_ok-fixed.ensures, c.in_ok-variable_name.ensures, c.in_ok-layer.ensures) (stops c.in_err-range.field-0.0 _ _ c.in_err-range.ensures)

pub returns-in_err-facts : goal.returns-in_err-facts
unfolding variable
returns-in_err-facts c =
    let p = err_from_is_err_and c.from_residual-in_err-facts.result c.from_residual-in_err-facts.ensures.1 in
    rw (p.1, p.2, c.in_ok-fixed.ensures, c.in_ok-variable_name.ensures, c.in_ok-layer.ensures, c.in_ok-range.ensures) (stops c.in_err-facts.field-0.0 _ _ c.in_err-facts.ensures)

pub returns-in_err-fixed-2 : goal.returns-in_err-fixed-2
unfolding variable
returns-in_err-fixed-2 c =
    let p = err_from_is_err_and c.from_residual-in_err-fixed-2.result c.from_residual-in_err-fixed-2.ensures.1 in
    rw (p.1, p.2, c.in_ok-fixed.ensures, c.in_ok-variable_name.ensures, c.in_ok-layer.ensures, c.in_ok-range.ensures, c.in_ok-facts.ensures) (stops c.in_err-fixed-2.field-0.0 _ _ c.in_err-fixed-2.ensures)

pub returns : goal.returns
unfolding variable
returns c = rw (c.in_ok-fixed.ensures, c.in_ok-variable_name.ensures, c.in_ok-layer.ensures, c.in_ok-range.ensures, c.in_ok-facts.ensures, c.in_ok-fixed-2.ensures) refl
