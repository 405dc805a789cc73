use Rattle.std.proofs.Common.{option_map, sym, ap, ◌∙◌}
use Rattle.translator.proofs.Requested.{asked_are_held}
use Rattle.translator.proofs.request.with_passes.Goals as goal

pub returns-in-Ok-Some-clause-held : goal.returns-in-Ok-Some-clause-held
returns-in-Ok-Some-clause-held g c =
    asked_are_held _ (option_map (λ list. list.now) c.args.accepted.passes) c.in-Ok-Some.passes.items (sym c.in-Ok-Some.ensures.kinds ∙ ap (option_map (λ passes. passes.items)) c.in-Ok-Some.field-0-is)
