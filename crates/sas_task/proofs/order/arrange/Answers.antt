-- Items that rise are arranged.
use Rattle.std.proofs.Common.{◌≡◌, sym, subst}
use Rattle.std.specs.List.{IsAllAdjacentAnswer}
use Rattle.std.specs.Ordering.{is_lt}
use Rattle.sas_task.proofs.Rising.{rising_arranged}
use Rattle.sas_task.proofs.order.arrange.Goals as goal

pub returns-then-rise : goal.returns-then-rise
returns-then-rise g c =
    let cmp = g.T.Ranked.cmp in
    let answer = subst (λ xs. IsAllAdjacentAnswer (λ x y b. b ≡ is_lt (cmp x y)) xs c.rise.result) c.as_slice.ensures.value c.rise.ensures in
    let rises = subst (IsAllAdjacentAnswer (λ x y b. b ≡ is_lt (cmp x y)) c.args.items.items) c.if-rise.true answer in
    sym (rising_arranged cmp g.met.T.Ranked.total c.args.once c.args.items.items rises)
