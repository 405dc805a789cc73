use Rattle.std.proofs.Common.{◌||◌, sym, ap, ◌∙◌}
use Rattle.numbering.specs.Below.{missing}
use Rattle.numbering.proofs.FoundTypes.{one_if, round_begins, round_more, closed_after, fewer_twice}
use Rattle.numbering.proofs.below.add_round.Goals as goal
use Rattle.numbering.proofs.below.add_round.Goals.{then-branch, else-branch}

pub loop-entry-init : goal.loop-entry-init
loop-entry-init c = round_begins c.args.entries.now c.args.found.now

pub loop-entry-preserved : goal.loop-entry-preserved
loop-entry-preserved c =
    let next = round_more c.args.entries.now c.args.found.now c.loop-entry.found c.loop-entry.has_grown c.loop-entry.entry-index c.loop-entry.invariant c.entry-item.result c.loop-entry-test.true c.entry-item.is c.add_next.new.found c.in_ok-has_grown.ensures.names
    c.in_ok-has_grown.has_grown c.if-branch.has_grown c.in_ok-has_grown.ensures.is_next in
    elim c.if-branch.branch [
      | then-branch w ↦ next (w.has_grown-is ∙ w.if-branch.true ∙ sym (ap (λ b. b || c.loop-entry.has_grown) w.if-branch.true))
      | else-branch w ↦ next (w.has_grown-is ∙ sym (ap (λ b. b || c.loop-entry.has_grown) w.if-branch.false))
    ]

pub returns : goal.returns
returns c = record {
  grows = c.loop-entry.invariant.grows;
  closed = closed_after c.args.entries.now c.args.found.now c.loop-entry.found c.loop-entry.has_grown c.loop-entry.entry-index c.loop-entry.invariant c.loop-entry-test.false;
  fewer = fewer_twice (missing c.args.entries.now c.loop-entry.found) (missing c.args.entries.now c.args.found.now) (one_if c.loop-entry.has_grown) c.loop-entry.invariant.fewer;
}
