use Rattle.std.proofs.Common.{◌≡◌, ◌++◌, List, ℕ, map, true}
use Rattle.std.specs.List.{Contains}
use Rattle.itertools.specs.Pool.{multi_left}
use Rattle.fdr_effects.proofs.Combined.{items, read, fits}
use Rattle.fdr_effects.proofs.splits.product_of.Given as goal

abbrev pub invariant-loop-member : goal.invariant-loop-member
invariant-loop-member l =
    let pools = items l.initial.member-iterator.pools.items in
    (l.initial.member-iterator.pools.items ≡ l.member-iterator.pools.items)
    × (l.all.items ++ map (read pools) (multi_left l.member-iterator) ≡ map (read pools) (multi_left l.initial.member-iterator))
    × ((way : List ℕ) → Contains (multi_left l.member-iterator) way → fits pools way ≡ true)
