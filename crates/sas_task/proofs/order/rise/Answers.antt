-- The test answers by the order.
use Rattle.std.proofs.Common.{◌≡◌, rules}
use Rattle.std.specs.Ordering.{is_lt}
use Rattle.std.proofs.lemmas.List.Sorted.{answers_always}
use Rattle.sas_task.proofs.order.rise.Goals as goal

pub returns : goal.returns
returns g c =
    c.is_sorted_by.ensures.cases (λ x y. is_lt (g.T.Ranked.cmp x y)) (answers_always _ (λ a r. r ≡ is_lt (g.T.Ranked.cmp a.0.now a.1.0.now)) _ (λ f a r f' call. search rules))
