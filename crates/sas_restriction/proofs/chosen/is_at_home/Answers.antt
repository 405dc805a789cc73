-- The value that stands there is the number of the place.
use Rattle.std.proofs.Common.{length, sym, ◌∙◌}
use Rattle.std.proofs.lemmas.Bool.{eqb-true, ltb-true}
use Rattle.std.proofs.lemmas.List.{get_or_default}
use Rattle.sas_restriction.proofs.chosen.is_at_home.Goals as goal

pub returns-in-Some : goal.returns-in-Some
returns-in-Some c same =
    let low = ltb-true c.args.val (length c.args.values.now) (sym c.in-Some.ensures.lookup.0) in
    (low, get_or_default c.args.values.now c.args.val 0 c.in-Some.left.now low ∙ sym c.in-Some.ensures.lookup.1 ∙ eqb-true c.in-Some.left.now c.args.val same)
