-- The pairs on the variable are all that count.
use Rattle.std.proofs.Common.{◌==◌, ap, ◌∙◌}
use Rattle.std.specs.List.{list_any}
use Rattle.sas_task.specs.declared.parts.Pair.{Pair}
use Rattle.fdr_effects.proofs.ByVariable.{any_on}
use Rattle.fdr_encoder.proofs.simplify.among.Goals as goal

pub returns : goal.returns
returns c =
    let p = c.args.pair.now in
    c.any_on.ensures ∙ ap (list_any (λ (q : Pair). q.val == p.val)) c.on.ensures ∙ any_on p.var (λ (q : Pair). q.val == p.val) c.args.conditions.now
