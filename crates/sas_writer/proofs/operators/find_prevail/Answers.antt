use Rattle.std.proofs.Common.{◌==◌, not, ap, ◌∙◌}
use Rattle.std.specs.Prelude.{filter}
use Rattle.std.specs.List.{list_any}
use Rattle.std.proofs.lemmas.List.Elements.{filter_agree}
use Rattle.sas_task.specs.declared.parts.Pair.{Pair}
use Rattle.sas_task.specs.Effects.{changes}
use Rattle.sas_writer.proofs.operators.find_prevail.Goals as goal

pub returns : goal.returns
returns c =
    let o = c.args.operator.now in
    let sorted = c.as_slice-2.result.now in
    let same = filter_agree (λ (p : Pair). not (list_any (λ v. v == p.var) sorted)) (λ p. not (changes o p.var)) (λ p.
    ap not (ap (list_any (λ v. v == p.var)) c.as_slice-2.ensures.value
    ∙ c.in_ok-set_changed.ensures.changed p.var)) in
    c.in_ok-set_without.ensures ∙ ap (filter (λ (p : Pair). not (list_any (λ v. v == p.var) sorted))) c.as_slice.ensures ∙ same o.conditions
