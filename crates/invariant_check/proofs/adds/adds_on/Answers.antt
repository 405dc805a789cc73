-- The add effects on the predicate stand together.
use Rattle.std.proofs.Common.{◌-◌, drop, length, ltb, leb, rules, sym, subst, take_all, arith, length-drop}
use Rattle.std.specs.List.Sorted.{IsPartitionedBy}
use Rattle.std.proofs.lemmas.List.Sorted.{IsPartitionPoint-from_clause, IsPartitionedBy-leb, IsPartitionedBy-ltb, IsNonDecreasingBy-drop}
use Rattle.invariant_check.specs.declared.types.AddOf.{AddOf}
use Rattle.lists.proofs.Keyed.{on_is}
use Rattle.invariant_check.proofs.adds.adds_on.Goals as goal

pub returns : goal.returns
returns c =
    let key = λ (add : AddOf). add.predicate in
    let adds = c.args.adds.now in
    let predicate = c.args.predicate in
    let s = c.partition_point.result in
    let left = length-drop s adds in
    let whole = take_all (length adds - s) (drop s adds) (omega arith) in
    let low = IsPartitionPoint-from_clause (λ x. ltb (key x) predicate) adds s c.partition_point.ensures.partitioned (IsPartitionedBy-ltb key adds predicate c.requires) (λ a r f' call. search rules) in
    let high = IsPartitionPoint-from_clause (λ x. leb (key x) predicate) _ c.partition_point-2.result c.partition_point-2.ensures.partitioned (subst (IsPartitionedBy (λ x. leb (key x) predicate)) (sym whole) (IsPartitionedBy-leb key (drop s adds) predicate (IsNonDecreasingBy-drop key s adds c.requires))) (λ a r f' call. search rules) in
    on_is key predicate adds c.requires s c.partition_point-2.result _ whole low c.partition_point.ensures.bound high c.partition_point-2.ensures.bound
