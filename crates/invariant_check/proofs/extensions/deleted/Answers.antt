use Rattle.std.proofs.Common.{◌∙◌, eqb, sym, subst}
use Rattle.std.specs.List.{Contains}
use Rattle.std.proofs.lemmas.List.Filters.{dedup_is}
use Rattle.invariant_check.proofs.InOrder.{in_order}
use Rattle.invariant_check.proofs.BesideParts.{deleted_others, deleted_rise, to_deleted, from_deleted}
use Rattle.invariant_check.proofs.extensions.deleted.Goals as goal

pub returns : goal.returns
returns c =
    let task = c.args.normal.now in
    let candidate = c.args.candidate.now in
    let schema = c.args.schema.now in
    let numbers = c.in_ok-predicates.predicates.items in
    let sorted = c.sort_unstable.new.self.items in
    let are = c.in_ok-predicates.ensures in
    dedup_is eqb sorted c.dedup.new.self.items c.dedup.ensures.filtered
    ∙ in_order numbers sorted (deleted_others task candidate schema) c.sort_unstable.ensures.permutation c.sort_unstable.ensures.sorted (deleted_rise task candidate schema)
    (λ p in'. to_deleted task candidate schema p (subst (λ l. Contains l p) are in')) (λ p in'. subst (λ l. Contains l p) (sym are) (from_deleted task candidate schema p in'))
