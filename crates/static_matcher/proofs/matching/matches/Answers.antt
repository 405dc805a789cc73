-- The matches, in order.
use Rattle.std.proofs.Common.{ℕ, List, Vec, Global, map, ap, ◌∙◌}
use Rattle.std.specs.Prelude.{filter}
use Rattle.normal_task.specs.Meaning.{choices}
use Rattle.lists.proofs.Items.{among_contains, contains_among}
use Rattle.static_matcher.specs.Matching.{may_match}
use Rattle.static_matcher.specs.Partial.{all_ranges}
use Rattle.static_matcher.proofs.Ordered.{in-order-from, same-lists, kept-in-order, choices-in-order}
use Rattle.static_matcher.proofs.Searching.{same_matches, all_rising, choices_started}
use Rattle.static_matcher.proofs.matching.matches.Goals as goal

abbrev items : Vec ℕ Global → List ℕ
items list = list.items

pub matches-requires : goal.matches-requires
matches-requires c = all_rising c.args.start.now c.args.ranges.now c.requires

pub returns : goal.returns
returns c =
    let task = c.args.tables.now in
    let literals = c.args.literals.now in
    let start = c.args.start.now in
    let others = c.args.ranges.now in
    let ranges = all_ranges start others in
    let found = map items c.in_ok-found.found.items in
    let sorted = map items c.in_ok-sorted.sorted.items in
    let wanted = filter (may_match task literals) (choices ranges) in
    let same = same_matches task literals ranges found c.in_ok-found.ensures.sound c.in_ok-found.ensures.whole in
    c.in_ok-listed.ensures
    ∙ same-lists sorted wanted (in-order-from sorted c.in_ok-sorted.ensures.rising)
    (kept-in-order (may_match task literals) (choices ranges) (choices-in-order ranges (all_rising start others c.requires)))
    (λ list there. (same list).0 (among_contains found list ((c.in_ok-sorted.ensures.same list).1 (contains_among sorted list there))))
    (λ list there. among_contains sorted list ((c.in_ok-sorted.ensures.same list).0 (contains_among found list ((same list).1 there))))
    ∙ ap (filter (may_match task literals)) (choices_started start others)
