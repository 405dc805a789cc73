-- One pair more, and all of them.
use Rattle.std.proofs.Common.{◌≤◌, ◌<◌, ◌++◌, map, drop, slice_set, length, append-nil, ap, ◌∙◌, arith}
use Rattle.std.proofs.lemmas.List.{length-set, take_all, drop_all}
use Rattle.std.proofs.lemmas.List.Edits.{map_over_more}
use Rattle.sas_restriction.specs.Listed.{chosen}
use Rattle.sas_restriction.specs.Choice.{new_pair}
use Rattle.sas_restriction.proofs.chosen.Chosen.renumber.Goals as goal

pub loop-i-preserved : goal.loop-i-preserved
loop-i-preserved c =
    let xs = c.args.pairs.now.items in
    let ys = c.loop-i.pairs.items in
    let i = c.loop-i.i in
    let low : i < length xs = omega arith in (
      length-set ys i c.new_pair.result ∙ c.loop-i.invariant.0,
      ap (slice_set ys i) c.new_pair.ensures ∙ map_over_more (new_pair (chosen c.args.self.now)) xs ys i c.index.result.now low c.loop-i.invariant.1 c.index.ensures,
    )

pub returns : goal.returns
returns c =
    let xs = c.args.pairs.now.items in
    let f = new_pair (chosen c.args.self.now) in
    let past : length xs ≤ c.loop-i.i = omega arith in
    c.loop-i.invariant.1
    ∙ ap (λ l. map f l ++ drop c.loop-i.i xs) (take_all c.loop-i.i xs past)
    ∙ ap (λ l. map f xs ++ l) (drop_all c.loop-i.i xs past)
    ∙ append-nil (map f xs)
