-- The value is at home, or the search finds it where it is left.
use Rattle.std.proofs.Common.{eqb, sym, ap, ◌∙◌}
use Rattle.lists.specs.Members.{is_among}
use Rattle.sas_restriction.proofs.Rising.{finds, home_found}
use Rattle.sas_restriction.proofs.chosen.Chosen.has.Goals as goal

pub returns-then-is_at_home : goal.returns-then-is_at_home
returns-then-is_at_home c =
    sym (home_found c.values-values.result.now c.args.val (c.is_at_home.ensures c.if-is_at_home.true))
    ∙ ap (λ values. is_among eqb values c.args.val) c.values-values.ensures.is

pub returns : goal.returns
returns c =
    c.is_ok.ensures.value ∙ finds c.values-values.result.now c.args.val c.binary_search.result c.values-values.ensures.rising c.binary_search.ensures.position
    ∙ ap (λ values. is_among eqb values c.args.val) c.values-values.ensures.is
