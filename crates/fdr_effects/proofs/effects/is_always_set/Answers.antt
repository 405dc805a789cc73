-- What one of the conditions is, one of the rivals' is.
use Rattle.std.proofs.Common.{eqb, sym, ap, ◌∙◌}
use Rattle.std.specs.List.{filter, list_any}
use Rattle.lists.proofs.Items.{any_map}
use Rattle.fdr_effects.specs.declared.rivals.Rival.{Rival}
use Rattle.fdr_effects.specs.Rivals.{is_no_literal}
use Rattle.fdr_effects.proofs.effects.is_always_set.Goals as goal

pub returns : goal.returns
returns c =
    c.one_is_empty.ensures
    ∙ ap (list_any (λ (r : Rival). is_no_literal r.condition.now)) c.on.ensures
    ∙ sym (any_map is_no_literal (λ (r : Rival). r.condition.now) (filter (λ (r : Rival). eqb r.var c.args.var) c.args.rivals.now))
