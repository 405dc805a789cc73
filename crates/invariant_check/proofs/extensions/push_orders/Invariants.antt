use Rattle.std.proofs.Common.{◌≡◌, ◌++◌, map, length}
use Rattle.itertools.specs.Pool.{permutation_left}
use Rattle.invariant_check.specs.Extensions.{part_at}
use Rattle.invariant_check.proofs.Orders.{read, AllInside}
use Rattle.invariant_check.proofs.extensions.push_orders.Given as goal

abbrev pub invariant-loop-places : goal.invariant-loop-places
invariant-loop-places l = record {
  pool : l.places-iterator.pool.items ≡ l.initial.places-iterator.pool.items;
  left : l.parts.items ++ map (λ ds. part_at l.predicate l.counted (read l.initial.places-iterator.pool.items ds)) (permutation_left l.places-iterator)
      ≡ l.fn.parts.items ++ map (λ ds. part_at l.predicate l.counted (read l.initial.places-iterator.pool.items ds)) (permutation_left l.initial.places-iterator);
  inside : AllInside (length l.initial.places-iterator.pool.items) (permutation_left l.places-iterator);
}
