use Rattle.std.proofs.lemmas.List.Elements.{All-append}
use Rattle.std.proofs.Common.{subst, sym}
use Rattle.std.specs.List.{All}
use Rattle.static_matcher.specs.Candidates.{IsCandidate}
use Rattle.static_matcher.proofs.MadeCandidates.{next_rows}
use Rattle.static_matcher.proofs.chosen.all_candidates.Goals as goal

pub loop-schema-preserved : goal.loop-schema-preserved
loop-schema-preserved c = (
  next_rows c.args.tables.now c.schemas-schema-items.result.now c.loop-schema.schema-index c.schema-item.result c.loop-schema-test.true c.schema-item.is
      c.loop-schema.candidates.items c.in_ok-more.more.items c.append.new.self.items c.loop-schema.invariant.0 c.in_ok-more.ensures.rows c.in_ok-append.ensures.items,
  subst (All (IsCandidate c.args.tables.now)) (sym c.in_ok-append.ensures.items)
      (All-append (IsCandidate c.args.tables.now) c.loop-schema.candidates.items c.in_ok-more.more.items c.loop-schema.invariant.1 c.in_ok-more.ensures.each),
)
