use Rattle.std.proofs.Common.{◌∙◌, eqb}
use Rattle.std.proofs.lemmas.List.Filters.{dedup_is}
use Rattle.invariant_check.specs.Touched.{touching}
use Rattle.invariant_check.proofs.InOrder.{in_order}
use Rattle.invariant_check.proofs.TouchedSchemas.{touching_rises, to_touching, from_touching}
use Rattle.invariant_check.proofs.adds.touching.Goals as goal

pub returns : goal.returns
returns c =
    let task = c.args.table.now.normal.now in
    let candidate = c.args.candidate.now in
    let numbers = c.in_ok-numbers.numbers.items in
    let sorted = c.sort_unstable.new.self.items in
    let adds = c.args.table.now.adds.items in
    dedup_is eqb sorted c.dedup.new.self.items c.dedup.ensures.filtered
    ∙ in_order numbers sorted (touching task candidate) c.sort_unstable.ensures.permutation c.sort_unstable.ensures.sorted (touching_rises task candidate)
    (to_touching task candidate adds c.args.table.now.all numbers c.in_ok-numbers.ensures) (from_touching task candidate adds c.args.table.now.all numbers c.in_ok-numbers.ensures)
