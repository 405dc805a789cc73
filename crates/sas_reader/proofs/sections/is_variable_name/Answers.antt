use Rattle.std.proofs.Common.{◌≡◌, true, false, length, take, drop, Some, ap, ◌∙◌, subst, arith}
use Rattle.std.specs.Prelude.{nat_eq}
use Rattle.std.specs.Option.{option_eq}
use Rattle.sas_reader.specs.Words.{is_same}
use Rattle.sas_reader.proofs.Named.{name_after, no_name}
use Rattle.sas_reader.proofs.sections.is_variable_name.Goals as goal

pub returns-in-Some : goal.returns-in-Some
returns-in-Some c =
    let front = subst (λ s. is_same (take (length s) c.args.line.now) s ≡ true) c.as_slice.ensures c.in-Some.ensures.cases.0 in
    let rest = subst (λ s. c.in-Some.digits.now ≡ drop (length s) c.args.line.now) c.as_slice.ensures c.in-Some.ensures.cases.1 in
    c.eq.ensures ∙ ap (λ o. option_eq nat_eq o (Some c.args.own_number)) c.number.ensures ∙ name_after c.args.line.now c.in-Some.digits.now c.args.own_number (omega arith) front rest

pub returns-in-None : goal.returns-in-None
returns-in-None c = no_name c.args.line.now c.args.own_number (subst (λ s. is_same (take (length s) c.args.line.now) s ≡ false) c.as_slice.ensures c.in-None.ensures.cases)
