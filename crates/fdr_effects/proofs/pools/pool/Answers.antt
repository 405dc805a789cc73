-- Where a value is wanted, it alone can be left.
use Rattle.std.proofs.Common.{◌≡◌, ◌∙◌}
use Rattle.std.proofs.lemmas.Result.{IfOk-weaker}
use Rattle.fdr_effects.specs.Marks.{pool}
use Rattle.fdr_effects.proofs.Marked.{pool_first}
use Rattle.fdr_effects.proofs.pools.pool.Goals as goal

pub returns-in-Some : goal.returns-in-Some
returns-in-Some c =
    IfOk-weaker c.wanted_value.result _ (λ made. made.items ≡ pool c.args.var c.args.values c.args.wanted.now c.args.barred.now) (λ made is.
    is ∙ pool_first c.args.var c.args.values c.in-Some.place.now c.args.wanted.now c.args.barred.now c.in-Some.ensures.value c.requires.wanted) c.wanted_value.ensures
