use Rattle.std.proofs.Common.{◌+◌, ◌*◌, ◌<◌, Bool, sym, subst}
use Rattle.std.proofs.lemmas.Bool.{true≢false}
use Rattle.numbering.specs.Below.{missing}
use Rattle.numbering.proofs.FoundTypes.{one_if, grows_not, grows_on}
use Rattle.numbering.proofs.below.Hierarchy.close.Goals as goal

pub loop-has_grown-init : goal.loop-has_grown-init
loop-has_grown-init c = record { grows = grows_not c.args.self.now.entries.now c.args.found.now; closed = λ never. absurd (true≢false never) }

pub loop-has_grown-preserved : goal.loop-has_grown-preserved
loop-has_grown-preserved c = record {
  grows = grows_on c.args.self.now.entries.now c.args.found.now c.loop-has_grown.found c.add_round.new.found c.loop-has_grown.invariant.grows c.in_ok-has_grown.ensures.grows;
  closed = c.in_ok-has_grown.ensures.closed;
}

pub loop-has_grown-smaller : goal.loop-has_grown-smaller
loop-has_grown-smaller c =
    let entries = c.args.self.now.entries.now in
    subst (λ (b : Bool). 2 * missing entries c.add_round.new.found + one_if c.in_ok-has_grown.has_grown < 2 * missing entries c.loop-has_grown.found + one_if b) (sym c.loop-has_grown-test.true) c.in_ok-has_grown.ensures.fewer
