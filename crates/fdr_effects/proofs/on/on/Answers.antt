-- What stands on the variable stands together.
use Rattle.std.proofs.Common.{◌-◌, drop, length, ltb, leb, rules, sym, subst, take_all, arith, length-drop}
use Rattle.std.specs.List.Sorted.{IsPartitionedBy}
use Rattle.std.proofs.lemmas.List.Sorted.{IsPartitionPoint-from_clause, IsPartitionedBy-leb, IsPartitionedBy-ltb, IsNonDecreasingBy-drop}
use Rattle.lists.proofs.Keyed.{on_is}
use Rattle.fdr_effects.proofs.on.on.Goals as goal

pub returns : goal.returns
returns g c =
    let key = g.T.OnVariable.var_of in
    let items = c.args.items.now in
    let var = c.args.var in
    let s = c.partition_point.result in
    let left = length-drop s items in
    let whole = take_all (length items - s) (drop s items) (omega arith) in
    let low = IsPartitionPoint-from_clause (λ x. ltb (g.T.OnVariable.var_of x) var) items s c.partition_point.ensures.partitioned (IsPartitionedBy-ltb key items var c.requires) (λ a r f' call. search rules) in
    let high = IsPartitionPoint-from_clause (λ x. leb (g.T.OnVariable.var_of x) var) _ c.partition_point-2.result c.partition_point-2.ensures.partitioned (subst (IsPartitionedBy (λ x. leb (g.T.OnVariable.var_of x) var)) (sym whole) (IsPartitionedBy-leb key (drop s items) var (IsNonDecreasingBy-drop key s items c.requires))) (λ a r f' call. search rules) in
    on_is key var items c.requires s c.partition_point-2.result _ whole low c.partition_point.ensures.bound high c.partition_point-2.ensures.bound
