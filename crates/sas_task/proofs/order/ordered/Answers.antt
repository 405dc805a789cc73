-- A stable sort leaves the items in order.
use Rattle.std.proofs.Common.{◌≡◌, is_lt, rules}
use Rattle.std.proofs.lemmas.List.Sorted.{ranks_by, answers_always}
use Rattle.sas_task.proofs.InOrder.{sort_orders}
use Rattle.sas_task.proofs.order.ordered.Goals as goal

pub returns : goal.returns
returns g c =
    let cmp = g.T.Ranked.cmp in
    let total = g.met.T.Ranked.total in
    let answers = answers_always _ (λ a r. is_lt r ≡ is_lt (g.T.Ranked.cmp a.0.now a.1.0.now)) _ (λ f a r f' call. search rules) in
    sort_orders cmp total c.args.items.items c.sort_by.new.self.items
    (c.in_ok-sort_by.ensures.sorted (λ x y. is_lt (g.T.Ranked.cmp x y)) (ranks_by total (λ x. x)) answers)
    (c.sort_by.ensures.stable (λ x y. is_lt (g.T.Ranked.cmp x y)) (ranks_by total (λ x. x)) answers)
