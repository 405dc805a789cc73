-- The test answers by the variables.
use Rattle.std.proofs.Common.{◌≡◌, rules}
use Rattle.std.specs.Prelude.{nat_lt}
use Rattle.std.proofs.lemmas.List.Sorted.{answers_always}
use Rattle.fdr_effects.proofs.splits.rise.Goals as goal

pub returns : goal.returns
returns c =
    c.is_sorted_by.ensures.cases (λ x y. nat_lt x.var y.var) (answers_always _ (λ a r. r ≡ nat_lt a.0.now.var a.1.0.now.var) _ (λ f a r f' call. search rules))
