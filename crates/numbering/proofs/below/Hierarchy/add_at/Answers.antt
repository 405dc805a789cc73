use Rattle.std.proofs.Common.{sym, ap, ◌∙◌}
use Rattle.numbering.specs.Below.{with_next}
use Rattle.numbering.proofs.FoundTypes.{next_at}
use Rattle.numbering.proofs.below.Hierarchy.add_at.Goals as goal

pub returns-in_ok-push : goal.returns-in_ok-push
returns-in_ok-push c =
    next_at c.args.self.now.entries.now c.args.found.now c.add_next.new.found c.args.position c.index-self-position.result c.if-position-self.false c.index-self-position.is
    (c.in_ok-add_next.ensures.names ∙ ap (with_next c.args.found.now) (sym c.index-self-position.is))
