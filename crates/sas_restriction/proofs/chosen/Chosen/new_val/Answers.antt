-- The value is at home, or the values before the point are those that are left before this one.
use Rattle.std.proofs.Common.{ℕ, ltb, List, filter, length, rules, sym, ap, ◌∙◌}
use Rattle.std.proofs.lemmas.List.Sorted.{IsPartitionPoint-from_clause, IsPartitionedBy-ltb}
use Rattle.sas_restriction.proofs.Rising.{never_falls, pass_before, at_home}
use Rattle.sas_restriction.proofs.chosen.Chosen.new_val.Goals as goal

pub returns-then-is_at_home : goal.returns-then-is_at_home
returns-then-is_at_home c =
    sym (at_home c.values-values.result.now c.args.val c.values-values.ensures.rising (c.is_at_home.ensures c.if-is_at_home.true))
    ∙ ap (λ (l : List ℕ). length (filter (λ v. ltb v c.args.val) l)) c.values-values.ensures.is

pub returns : goal.returns
returns c =
    let items = c.values-values.result.now in
    let val = c.args.val in
    let parted = IsPartitionPoint-from_clause (λ v. ltb v val) items c.partition_point.result c.partition_point.ensures.partitioned (IsPartitionedBy-ltb (λ v. v) items val (never_falls items c.values-values.ensures.rising)) (λ a r f' call. search rules) in
    sym (pass_before (λ v. ltb v val) items c.partition_point.result c.partition_point.ensures.bound parted) ∙ ap (λ (l : List ℕ). length (filter (λ v. ltb v val) l)) c.values-values.ensures.is
